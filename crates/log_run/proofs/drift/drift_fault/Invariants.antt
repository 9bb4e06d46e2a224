use Rattle.std.proofs.Common.{reverse, take}
use Rattle.log_run.specs.internals.Clocks.{AreClocks}
use Rattle.log_run.specs.Drifts.{AreWithinDrift}
use Rattle.log_run.proofs.drift.drift_fault.Given as goal

-- no sample so far is wrong, and these are the clocks
abbrev pub invariant-loop-index : goal.invariant-loop-index
invariant-loop-index l = record {
  clocks : AreClocks l.fn.drift (reverse (take l.index l.entries)) l.clocks;
  within : AreWithinDrift l.fn.drift (reverse (take l.index l.entries));
}
