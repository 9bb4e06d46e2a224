use Rattle.std.proofs.Common.{◌≡◌, ◌++◌, ℕ, List, length}
use Rattle.log_line.specs.Readers.{IsReading}
use Rattle.log_line.proofs.log_reader.LogReader.read.Given as goal

-- what was read of the piece so far, and what is left of it
abbrev pub invariant-parts : goal.invariant-parts
invariant-parts g l = (files : List (List ℕ)) → (before : List ℕ) → IsReading files before l.fn.self
    → (done : List ℕ) × (l.fn.piece ≡ done ++ l.bytes) × IsReading files (before ++ done) l.reader

abbrev pub decreases-parts : goal.decreases-parts
decreases-parts g l = length l.bytes
