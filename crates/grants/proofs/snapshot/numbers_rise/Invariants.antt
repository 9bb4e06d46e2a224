use Rattle.std.proofs.Common.{◌≡◌, drop}
use Rattle.grants.specs.Snapshots.{numbers_rise}
use Rattle.grants.proofs.snapshot.numbers_rise.Given as goal

abbrev pub invariant-loop-row : goal.invariant-loop-row
invariant-loop-row l = numbers_rise l.before l.most (drop l.row-index l.rows) ≡ numbers_rise 0 l.most l.rows
