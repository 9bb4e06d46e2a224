-- the shelves of the writes so far, and the first of them that was passed
use Rattle.std.proofs.Common.{take}
use Rattle.store_writes.specs.internals.Firsts.{AreGreatest, IsFound}
use Rattle.store_writes.proofs.late.first_late.Given as goal

abbrev pub invariant-loop-place : goal.invariant-loop-place
invariant-loop-place l = record { shelves : AreGreatest (take l.place l.taken) l.shelves; first : IsFound l.taken l.place l.first }
