use Rattle.program_io.proofs.Skipping.{AreSkipped}
use Rattle.program_io.proofs.line_reading.next_line.Given as goal

abbrev pub invariant-blanks : goal.invariant-blanks
invariant-blanks g l = AreSkipped (g.R.Read.remaining l.initial.reader) (g.R.Read.remaining l.reader)
