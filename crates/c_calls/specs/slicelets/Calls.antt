-- What the calls of a slicelet leave and answer.
use Rattle.std.specs.Prelude.{◌≡◌, ℕ, List, codes, Option, Some, None, Result, if◌then◌else◌}
use Rattle.assignment.specs.Slices.{is_task}
use Rattle.grants.specs.declared.values.Grant.{Grant}
use Rattle.slicelet.specs.States.{SliceletState, opening}
use Rattle.slicelet.specs.Steps.{start_step, hear_step}
use Rattle.wire.specs.Grants.{grant_of}
use Rattle.wire.specs.declared.fault.DecodeError.{DecodeError}
use Rattle.c_calls.specs.declared.answer.Answer.{Answer}
use Rattle.c_calls.specs.declared.answer.Answer.TheVariants.{Done, Leased, Slicelet}
use Rattle.c_calls.specs.Taken.{IsStepped, IsTaken}
use Rattle.c_calls.specs.Reading.{IsReadFrom, OnRead}
use Rattle.c_calls.specs.slicelets.Leases.{details_of}

-- the slicelet of a task before its first call, where the number is that of a task
abbrev pub opened_slicelet : ℕ → Option SliceletState
opened_slicelet task = if is_task task then Some (opening task) else None

-- a life was started, or why it was not, and nothing is changed; to start takes no memory
abbrev pub IsStarted : ℕ → ℕ → SliceletState → SliceletState → Answer → Type 0
IsStarted life at old new answer = IsStepped (λ _. Done) Slicelet (start_step old life at) old new answer

-- the grant was heard and its lease is told, or why it was not heard
abbrev pub IsHeardGrant : Grant → ℕ → SliceletState → SliceletState → Answer → Type 0
IsHeardGrant grant at old new answer = IsTaken (λ _. Leased (details_of grant)) Slicelet (hear_step old grant at) old new answer

-- the grant that was read
abbrev pub IsHeard : ℕ → SliceletState → SliceletState → Answer → Result Grant DecodeError → Type 0
IsHeard at old new answer = OnRead (new ≡ old) answer (λ grant. IsHeardGrant grant at old new answer)

-- the bytes were read as a grant of the job
abbrev pub IsGrantHeard : List ℕ → List ℕ → ℕ → SliceletState → SliceletState → Answer → Type 0
IsGrantHeard job bytes at old new answer = IsReadFrom job (codes "grant") grant_of bytes (IsHeard at old new answer)
