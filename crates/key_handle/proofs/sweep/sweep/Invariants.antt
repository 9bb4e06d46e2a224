use Rattle.std.proofs.Common.{ℕ, ◌+◌, length}
use Rattle.key_handle.proofs.Restamping.{IsSweep}
use Rattle.key_handle.proofs.sweep.sweep.Given as goal

-- the sweep has come to some key p
abbrev pub invariant-loop-key : goal.invariant-loop-key
invariant-loop-key l = (p : ℕ) × IsSweep l.levels l.before l.after l.stamp l.old l.levels_rest l.in_before l.before_rest l.in_after l.after_rest l.written.items l.last p

abbrev pub decreases-loop-key : goal.decreases-loop-key
decreases-loop-key l = length l.levels_rest + (length l.before_rest + length l.after_rest)
