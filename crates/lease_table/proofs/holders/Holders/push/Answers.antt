use Rattle.std.proofs.Common.{◌≡◌, ◌∙◌, List, [], ◌∷◌, ◌++◌, subst, rules, Vec, Global}
use Rattle.std.specs.Prelude.{if◌then◌else◌, IsSome, Some}
use Rattle.indexmap.specs.IndexMap.{IndexMap, get}
use Rattle.lease_table.specs.declared.holders.Holder.{Holder}
use Rattle.grants.specs.declared.values.Row.{Row}
use Rattle.lease_table.specs.internals.Holders.{same_holder, rows_held}
use Rattle.lease_table.proofs.HeldRows.{changed, held, on_error, either_way}
use Rattle.lease_table.proofs.holders.Holders.push.Goals as goal

pub returns-in_err-push-clause-err : goal.returns-in_err-push-clause-err
returns-in_err-push-clause-err c =
    let key = c.of_row-holder.result in
    let left : c.push.new.self.items ≡ held (λ rows. rows.items) (get same_holder c.args.self.now.lists key) = search rules in
    let there : IsSome (get same_holder c.args.self.now.lists key) = search rules in
    let unchanged : (holder : Holder) → rows_held (record { lists = c.get_mut.follows.lender c.push.new.self }) holder ≡ rows_held c.args.self.now holder =
    λ holder. changed (λ rows. rows.items) key c.push.new.self (λ q. get same_holder c.args.self.now.lists q) (λ q. get same_holder (c.get_mut.follows.lender c.push.new.self) q) (λ rows. rows) left
    (((c.get_mut.follows.holds c.push.new.self).3 there).0) holder ∙ either_way (same_holder key holder) (rows_held c.args.self.now holder) in
    on_error _ unchanged

pub returns-clause-ok : goal.returns-clause-ok
returns-clause-ok c = λ holder.
    let key = c.of_row-holder.result in
    let more : List Row → List Row = λ rows. rows ++ c.args.row.now ∷ [] in
    let added : c.push-2.new.self.items ≡ more (held (λ rows. rows.items) (get same_holder c.args.self.now.lists key)) = search rules in
    let same : c.get_mut.follows.lender-at-none ≡ c.args.self.now.lists = search rules in
    let updates : (q : Holder) → get same_holder c.insert.new.self q ≡ (if same_holder key q then Some c.push-2.new.self else get same_holder c.args.self.now.lists q) =
    subst (λ (m : IndexMap Holder (Vec Row Global) _). (q : Holder) → get same_holder c.insert.new.self q ≡ (if same_holder key q then Some c.push-2.new.self else get same_holder m q)) same c.in_ok-insert.ensures.updates.0 in
    subst (λ (h : Holder). rows_held (record { lists = c.insert.new.self }) holder ≡ (if same_holder h holder then more (rows_held c.args.self.now holder) else rows_held c.args.self.now holder)) c.of_row-holder.ensures
    (changed (λ rows. rows.items) key c.push-2.new.self (λ q. get same_holder c.args.self.now.lists q) (λ q. get same_holder c.insert.new.self q) more added updates holder)
