use Rattle.std.proofs.Common.{ℕ, drop}
use Rattle.slice_ranges.proofs.LevelWriting.{IsWritten}
use Rattle.slice_ranges.proofs.levels.boundaries_of_levels.Given as goal

-- the levels below some key p are written
abbrev pub invariant-loop-level : goal.invariant-loop-level
invariant-loop-level l = (p : ℕ) × IsWritten l.levels (drop l.level-index l.levels) l.boundaries.items l.inside p
