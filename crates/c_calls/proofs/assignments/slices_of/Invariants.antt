use Rattle.std.proofs.Common.{◌≡◌, map, take}
use Rattle.c_calls.specs.Assignments.{slice_of}
use Rattle.c_calls.proofs.assignments.slices_of.Given as goal

abbrev pub invariant-loop-slice : goal.invariant-loop-slice
invariant-loop-slice l = l.slices.items ≡ map slice_of (take l.slice-index l.numbers)
