use Rattle.std.proofs.Common.{◌≡◌, ◌∙◌, List, filter, ap, subst, rules}
use Rattle.std.specs.Prelude.{nat_lt, if◌then◌else◌, IsSome}
use Rattle.std.proofs.lemmas.Fn.{filter_same}
use Rattle.indexmap.specs.IndexMap.{get}
use Rattle.lease_table.specs.declared.holders.Holder.{Holder}
use Rattle.grants.specs.declared.values.Row.{Row}
use Rattle.lease_table.specs.internals.Holders.{same_holder, rows_held}
use Rattle.lease_table.proofs.HeldRows.{changed, held}
use Rattle.lease_table.proofs.holders.Holders.keep_open.Goals as goal

pub returns-in-Some : goal.returns-in-Some
returns-in-Some c = λ holder.
    let key = c.of_note.result in
    let open_rows : List Row → List Row = λ rows. filter (λ row. nat_lt c.args.note.now.number row.number) rows in
    let left : c.retain.new.self.items ≡ open_rows c.in-Some.rows.now.items = filter_same _ (λ row. nat_lt c.args.note.now.number row.number) _ (λ x b f' k. search rules) _ _ c.retain.ensures.filtered in
    let found : c.in-Some.rows.now.items ≡ held (λ rows. rows.items) (get same_holder c.args.self.now.lists key) = search rules in
    let there : IsSome (get same_holder c.args.self.now.lists key) = search rules in
    subst (λ (h : Holder). rows_held (record { lists = c.get_mut.follows.lender c.retain.new.self }) holder ≡ (if same_holder h holder then open_rows (rows_held c.args.self.now holder) else rows_held c.args.self.now holder)) c.of_note.ensures
    (changed (λ rows. rows.items) key c.retain.new.self (λ q. get same_holder c.args.self.now.lists q) (λ q. get same_holder (c.get_mut.follows.lender c.retain.new.self) q) open_rows (left ∙ ap open_rows found)
    (((c.get_mut.follows.holds c.retain.new.self).3 there).0) holder)
