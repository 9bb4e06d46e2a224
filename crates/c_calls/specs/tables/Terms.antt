-- Terms of the job lease, and where a table stands, as numbers.
use Rattle.std.specs.Prelude.{◌==◌, ◌+◌, Option, Some, None, Result, Ok, Err, if◌then◌else◌}
use Rattle.grants.specs.declared.values.JobTerm.{JobTerm}
use Rattle.grants.specs.declared.values.Phase.{Phase}
use Rattle.grants.specs.declared.values.Phase.TheVariants.{Steady, Bridging}
use Rattle.grants.specs.declared.table_error.TableError.{TableError}
use Rattle.lease_table.specs.Tables.{Standing}
use Rattle.c_calls.specs.declared.tables.terms.TermNumbers.{TermNumbers}
use Rattle.c_calls.specs.declared.tables.terms.PhaseNumbers.{PhaseNumbers}

-- the numbers of a term, and the term of numbers
abbrev pub term_numbers : JobTerm → TermNumbers
term_numbers term = record { number = term.number; assigner = term.assigner; until = term.until }

abbrev pub term_of : TermNumbers → JobTerm
term_of n = record { number = n.number; assigner = n.assigner; until = n.until }

-- what is written of the term that a step gives; nothing where the step is refused
abbrev pub term_given : Result (Standing × JobTerm) TableError → TermNumbers → TermNumbers
term_given (Ok p) was = term_numbers p.1
term_given (Err why) was = was

-- the numbers of a phase: 0 where no assignment is proposed
abbrev pub phase_numbers : Phase → PhaseNumbers
phase_numbers (Steady committed) = record { committed = committed; proposed = 0 }
phase_numbers (Bridging committed proposed) = record { committed = committed; proposed = proposed }

-- the phase of numbers, where what is proposed is of the generation after the committed one
abbrev pub phase_of : PhaseNumbers → Option Phase
phase_of n =
    if n.proposed == 0 then Some (Steady n.committed)
    else (if n.proposed == n.committed + 1 then Some (Bridging n.committed n.proposed) else None)
