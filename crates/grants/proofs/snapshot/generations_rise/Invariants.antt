use Rattle.std.proofs.Common.{◌≡◌, drop}
use Rattle.grants.specs.Snapshots.{generations_rise}
use Rattle.grants.proofs.snapshot.generations_rise.Given as goal

abbrev pub invariant-loop-row : goal.invariant-loop-row
invariant-loop-row l = generations_rise l.before l.newest (drop l.row-index l.rows) ≡ generations_rise 0 l.newest l.rows
