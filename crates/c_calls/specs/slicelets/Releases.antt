-- What a release leaves and gives: the message of its note, whole or not at all.
use Rattle.std.specs.Prelude.{◌≡◌, ℕ, List, true, is_ok, Option, Result, Err}
use Rattle.machines.specs.declared.machine.Trouble.{Trouble}
use Rattle.machines.specs.declared.machine.Trouble.TheVariants as trouble
use Rattle.lease_rule.specs.declared.lease.Kind.{Kind}
use Rattle.slicelet.specs.States.{SliceletState}
use Rattle.slicelet.specs.Steps.{release_step}
use Rattle.c_calls.specs.declared.answer.Answer.{Answer}
use Rattle.c_calls.specs.declared.answer.Answer.TheVariants.{Slicelet}
use Rattle.c_calls.specs.Arguments.{InForm}
use Rattle.c_calls.specs.Messages.{IsNoteText}
use Rattle.c_calls.specs.Outputs.{Output}
use Rattle.c_calls.specs.Taken.{IsStepGiven}

-- the lease of a kind is released and the message of its note given; or the release is refused, or there is no room or no memory for the note, and the
-- lease is still held
abbrev pub IsReleased : List ℕ → Option Kind → ℕ → SliceletState → SliceletState → Output ℕ → Output ℕ → Answer → Type 0
IsReleased job kind at old new was now answer = InForm kind ((new ≡ old) × (now ≡ was)) answer
    (λ kind. IsStepGiven (λ why. Slicelet why) (IsNoteText job) (release_step old kind at) old new was now answer)

-- why a release was not prepared: its refusal, or that memory ran out where it is not refused
abbrev pub IsFailure : {A F : Type 0} → Result A F → Trouble F → Type 0
IsFailure step (trouble.Refused why) = step ≡ Err why
IsFailure step trouble.NoMemory = is_ok step ≡ true
