use Rattle.std.proofs.Common.{◌<◌, ◌≤◌, List, sym, subst, arith}
use Rattle.std.specs.List.{AllByRecursion}
use Rattle.grants.specs.declared.values.Row.{Row}
use Rattle.lease_table.proofs.RowChecks.{all_before}
use Rattle.lease_table.proofs.rows.Rows.of.Goals as goal

pub push-requires-clause-numbers : goal.push-requires-clause-numbers
push-requires-clause-numbers c =
    subst (λ (rows : List Row). AllByRecursion (λ other. other.number < c.row-item.result.number) rows) (sym c.loop-row.invariant)
    (all_before (λ row later. row.number < later.number) c.args.rows.now c.loop-row.row-index c.row-item.result c.requires.numbers (omega (arith, c.loop-row-test.true)) c.row-item.is)

pub push-requires-clause-generations : goal.push-requires-clause-generations
push-requires-clause-generations c =
    subst (λ (rows : List Row). AllByRecursion (λ other. other.generation ≤ c.row-item.result.generation) rows) (sym c.loop-row.invariant)
    (all_before (λ row later. row.generation ≤ later.generation) c.args.rows.now c.loop-row.row-index c.row-item.result c.requires.generations (omega (arith, c.loop-row-test.true)) c.row-item.is)
