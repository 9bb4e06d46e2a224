use Rattle.std.proofs.Common.{◌≡◌, ◌∙◌, ◌<◌, ◌≤◌, ℕ, true, false, List, Bor, length, get_or, refl, sym, ap, arith}
use Rattle.std.proofs.lemmas.Bool.Decides.{nat_tests}
use Rattle.std.proofs.lemmas.Option.{slice_get_past, slice_get_read}
use Rattle.std.specs.Prelude.{Option, Some, None, IfSome, is_some, find, slice_get, nat_lt}
use Rattle.std.specs.Option.{option_copied}
use Rattle.grants.specs.declared.values.Row.{Row}
use Rattle.grants.specs.Rows.{runs_at}
use Rattle.lease_table.specs.internals.RowOrder.{if_up_to}
use Rattle.lease_table.proofs.RowOrder.{ended_later, first_decides}
use Rattle.lease_table.proofs.rows.Rows.first_up_to.Goals as goal
use Rattle.lease_table.proofs.rows.Rows.first_up_to.Goals.{then-self-at, else-self-at}

pub next_running-index-requires : goal.next_running-index-requires
next_running-index-requires c =
    let rows = c.as_slice-rows.result.now in
    let same : rows ≡ c.values.result = c.as_slice-rows.ensures in
    rw (same, c.values.ensures.rest) (elim c.if-self-at.branch [
      | then-self-at w ↦ rw w.start-is (ended_later c.self.inside.ended c.self.inside.ended_at c.args.at _ (omega (arith, w.if-self-at.true)) c.self.invariant.ended)
      | else-self-at w ↦ rw w.start-is tt
    ])

read : (rows : List Row) (index : ℕ) (r : Option (Bor Row)) → is_some r ≡ nat_lt index (length rows) → IfSome r (λ x. x.now ≡ get_or rows index x.now)
    → option_copied r ≡ slice_get rows index
read rows index None past same =
    let test : nat_lt index (length rows) ≡ false = sym past in
    let l : length rows ≤ index = grind (arith, nat_tests) in
    sym (slice_get_past rows index l)
read rows index (Some row) within same =
    let test : nat_lt index (length rows) ≡ true = sym within in
    let l : index < length rows = grind (arith, nat_tests) in
    sym (slice_get_read rows (length rows) index row.now refl l same)

pub returns-clause-first : goal.returns-clause-first
returns-clause-first c =
    let rows = c.as_slice-rows.result.now in
    let same : rows ≡ c.args.self.now = c.as_slice-rows.ensures ∙ c.values.ensures.rest ∙ c.self.view_is in
    let found : option_copied c.get.result ≡ slice_get rows c.next_running-index.result = read rows c.next_running-index.result c.get.result c.get.ensures.lookup.0 c.get.ensures.lookup.1 in
    let first : c.copied-first.result ≡ find (runs_at c.args.at) rows = c.copied-first.ensures ∙ found ∙ c.next_running-index.ensures.first in
    c.if_up_to.ensures ∙ ap (if_up_to c.args.generation) (first ∙ ap (find (runs_at c.args.at)) same)
    ∙ sym (first_decides c.args.generation c.args.at c.args.self.now (rw (← c.self.view_is) c.self.invariant.rising))
