use Rattle.program_io.proofs.PartReading.{AreParts}
use Rattle.program_io.proofs.line_reading.read_line.Given as goal

abbrev pub invariant-parts : goal.invariant-parts
invariant-parts g l = AreParts (g.R.Read.remaining l.initial.reader) (g.R.Read.remaining l.reader) l.bytes.items l.is_cut
