use Rattle.std.proofs.Common.{◌≡◌, ◌∙◌, ℕ, ◌+◌, List, ◌∷◌, drop, eqb, sym, ap, rules, arith}
use Rattle.std.specs.Prelude.{Some, None}
use Rattle.std.specs.Map.{lookup}
use Rattle.std.proofs.lemmas.List.{at_drop_more}
use Rattle.grants.specs.declared.values.Row.{Row}
use Rattle.lease_table.specs.internals.Holders.{entry_freed, entries_freed}
use Rattle.lease_table.proofs.FreedRows.{entry_set, entry_absent}
use Rattle.lease_table.proofs.rows.mark_freed.Goals as goal
use Rattle.lease_table.proofs.rows.mark_freed.Goals.{in-Some, in_default}

pub loop-row-preserved : goal.loop-row-preserved
loop-row-preserved c =
    let row = c.row-item.result in
    let rest = drop (c.loop-row.row-index + 1) c.args.rows.now in
    let entries = c.loop-row.map.entries in
    let marked : c.match-get_mut.map.entries ≡ entry_freed row.number entries = elim c.match-get_mut.branch [
      | in-Some w ↦
          let found : lookup (eqb row.number) entries ≡ Some w.in-Some.stored.now = search rules in
          let written : c.match-get_mut.map.entries ≡ _ = ap (λ m. m.entries) w.map-is ∙ (c.get_mut.follows.holds (record w.in-Some.stored.now { table_ends = 0 })).0 in
          written ∙ entry_set row.number w.in-Some.stored.now entries c.get_mut.ensures.unique found
      | in_default w ↦
          let none : lookup (eqb row.number) entries ≡ None = search rules in
          let same : c.match-get_mut.map.entries ≡ entries = search rules in
          same ∙ sym (entry_absent row.number entries none)
    ] in
    ap (λ (es : List (ℕ × Row)). entries_freed rest es) marked
    ∙ ap (λ (r : Row). entries_freed (r ∷ rest) entries) c.row-item.is
    ∙ sym (at_drop_more (λ (rs : List Row). entries_freed rs entries) c.args.rows.now c.loop-row.row-index row (omega (arith, c.loop-row-test.true)))
    ∙ c.loop-row.invariant
