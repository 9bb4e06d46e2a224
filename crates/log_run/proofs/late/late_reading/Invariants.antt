use Rattle.log_run.proofs.Watching.{IsWatched}
use Rattle.log_run.proofs.late.late_reading.Given as goal

-- the readings so far are timely
abbrev pub invariant-loop-index : goal.invariant-loop-index
invariant-loop-index l = IsWatched l.skew l.earlier l.entries l.index l.greatest
