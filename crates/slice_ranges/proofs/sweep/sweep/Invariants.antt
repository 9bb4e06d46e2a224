use Rattle.std.proofs.Common.{ℕ, ◌+◌, length}
use Rattle.slice_ranges.specs.declared.key.TheConstants.{KEYS}
use Rattle.slice_ranges.specs.internals.Sweeps.{apply}
use Rattle.slice_ranges.proofs.Sweeping.{IsSweep}
use Rattle.slice_ranges.proofs.sweep.sweep.Given as goal

-- the sweep has come to some key p
abbrev pub invariant-loop-key : goal.invariant-loop-key
invariant-loop-key l = (p : ℕ) × IsSweep (apply l.operation) l.first l.second (KEYS + 1) l.in_first l.first_rest l.in_second l.second_rest l.boundaries.items l.inside p

abbrev pub decreases-loop-key : goal.decreases-loop-key
decreases-loop-key l = length l.first_rest + length l.second_rest
