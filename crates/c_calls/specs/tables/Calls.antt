-- The calls of a table, by their steps.
use Rattle.std.specs.Prelude.{◌≡◌, ℕ, Option, Result, Ok, Err}
use Rattle.assignment.specs.Slices.{Slicing}
use Rattle.grants.specs.declared.values.ReleaseNote.{ReleaseNote}
use Rattle.grants.specs.declared.table_error.TableError.{TableError}
use Rattle.lease_table.specs.Tables.{Standing}
use Rattle.lease_table.specs.Steps.{take_step, propose_step, free_step}
use Rattle.wire.specs.declared.fault.DecodeError.{DecodeError}
use Rattle.c_calls.specs.declared.answer.Answer.{Answer}
use Rattle.c_calls.specs.declared.answer.Answer.TheVariants.{Done, Committed, Table}
use Rattle.c_calls.specs.Taken.{IsStepped, IsTaken}
use Rattle.c_calls.specs.Arguments.{InForm}
use Rattle.c_calls.specs.Reading.{OnRead}
use Rattle.c_calls.specs.declared.tables.terms.TermNumbers.{TermNumbers}
use Rattle.c_calls.specs.tables.Terms.{term_given}

-- the table took its step, or it refused the call and is what it was
abbrev pub IsTableStep : {R : Type 0} → Result (Standing × R) TableError → Standing → Standing → Answer → Type 0
IsTableStep step old new answer = IsStepped (λ _. Done) (λ why. Table why) step old new answer

-- the table gave the job lease to an assigner, or refused the call
abbrev pub IsTermTaken : Option ℕ → ℕ → Standing → Standing → TermNumbers → TermNumbers → Answer → Type 0
IsTermTaken assigner at old new was now answer = InForm assigner ((new ≡ old) × (now ≡ was)) answer (λ assigner.
    IsTableStep (take_step old assigner at) old new answer × (now ≡ term_given (take_step old assigner at) was))

-- a step that commits answers the generation
abbrev pub IsCommitStep : Result (Standing × ℕ) TableError → Standing → Standing → Answer → Type 0
IsCommitStep step old new answer = IsStepped (λ generation. Committed generation) (λ why. Table why) step old new answer

-- the assignment that was read is proposed
abbrev pub IsProposed : ℕ → ℕ → Standing → Standing → Answer → Result Slicing DecodeError → Type 0
IsProposed number at old new answer =
    OnRead (new ≡ old) answer (λ slicing. IsTaken (λ _. Done) (λ why. Table why) (propose_step old number slicing at) old new answer)

-- what is written of how many rows a step frees; nothing where the step is refused
abbrev pub count_given : Result (Standing × ℕ) TableError → ℕ → ℕ
count_given (Ok p) was = p.1
count_given (Err why) was = was

-- the note that was read frees rows
abbrev pub IsFreed : ℕ → Standing → Standing → ℕ → ℕ → Answer → Result ReleaseNote DecodeError → Type 0
IsFreed at old new was now answer = OnRead ((new ≡ old) × (now ≡ was)) answer (λ note.
    IsTableStep (free_step old note at) old new answer × (now ≡ count_given (free_step old note at) was))
