use Rattle.std.proofs.Common.{◌≡◌, map, take}
use Rattle.c_calls.specs.Assignments.{slice_numbers}
use Rattle.c_calls.proofs.assignments.numbers_of.Given as goal

abbrev pub invariant-loop-slice : goal.invariant-loop-slice
invariant-loop-slice l = l.numbers.items ≡ map slice_numbers (take l.slice-index l.slices)
