use Rattle.std.proofs.Common.{◌≤◌, ◌+◌, [], ℕ, List}
use Rattle.program_io.specs.declared.line.TheConstants.{MOST_LINE_BYTES}
use Rattle.log_line.specs.Readers.{IsReading}
use Rattle.command.proofs.Logs.{IsTakenSoFar}
use Rattle.command.proofs.log_audit.read_log.Given as goal

abbrev pub invariant-reads : goal.invariant-reads
invariant-reads g l = record {
  short : l.run ≤ MOST_LINE_BYTES + 1;
  taken : (files : List (List ℕ)) → IsReading files [] l.fn.log
      → IsTakenSoFar files (g.R.Read.remaining l.initial.reader) (g.R.Read.remaining l.reader) l.run l.log;
}
