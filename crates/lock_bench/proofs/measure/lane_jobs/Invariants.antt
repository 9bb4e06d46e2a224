use Rattle.std.proofs.Common.{vec_len}
use Rattle.history_lock.specs.Passes.{ArePassesOf}
use Rattle.lock_bench.proofs.measure.lane_jobs.Given as goal

abbrev pub invariant-loop-pass : goal.invariant-loop-pass
invariant-loop-pass l = ArePassesOf l.lock l.passes.items

abbrev pub decreases-loop-pass : goal.decreases-loop-pass
decreases-loop-pass l = vec_len l.passes
