use Rattle.lease_table.specs.internals.RowOrder.{HaveEnded}
use Rattle.lease_table.proofs.rows.next_running.Given as goal

abbrev pub invariant-loop-index : goal.invariant-loop-index
invariant-loop-index l = HaveEnded l.index l.at l.rows
