use Rattle.c_calls.proofs.Phases.{phase_reads}
use Rattle.c_calls.proofs.tables.calls.phase.Goals as goal

pub returns-clause-reads : goal.returns-clause-reads
returns-clause-reads c policy past run leads =
    let law = c.generations_law.ensures in
    rw (c.of.ensures, c.phase.ensures) (phase_reads policy past c.args.table.now leads (law.committed policy past run) (λ slicing e. law.pending policy past slicing run e))
