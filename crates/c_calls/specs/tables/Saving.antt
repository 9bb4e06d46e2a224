-- What a table saves in place of what is saved, and where that covers it.
use Rattle.std.specs.Prelude.{◌≡◌, ◌⊎◌, ℕ, ◌+◌, ◌-◌, ◌&&◌, min, max, nat_lt, List, [], ◌∷◌, codes, Option, Some, None, Result, if◌then◌else◌}
use Rattle.machines.specs.Refusals.{first_of}
use Rattle.grants.specs.declared.kept.Kept.{Kept}
use Rattle.grants.specs.declared.kept.KeptFault.{KeptFault}
use Rattle.grants.specs.declared.policy.TheConstants.{READINGS}
use Rattle.grants.specs.KeptValues.{can_grant, kept_checks, lease_term, Covers}
use Rattle.wire.specs.Kept.{kept_of}
use Rattle.wire.specs.declared.fault.DecodeError.{DecodeError}
use Rattle.c_calls.specs.declared.answer.Answer.{Answer}
use Rattle.c_calls.specs.declared.answer.Answer.TheVariants as answers
use Rattle.c_calls.specs.Outputs.{IsOutOfMemory, Output, output}
use Rattle.c_calls.specs.Reading.{IsReadFrom, OnRead}
use Rattle.c_calls.specs.declared.tables.saving.Ahead.{Ahead}
use Rattle.c_calls.specs.tables.Texts.{IsKeptGiven}

-- for so many grants and so many ticks
abbrev pub ahead : ℕ → ℕ → Ahead
ahead grants ticks = record { grants = grants; ticks = ticks }

-- the values that a table would keep after grants up to this number, at this reading
abbrev pub after_grants : Kept → ℕ → ℕ → Kept
after_grants k granted last = record k { last = last; granted = granted; deadline = max k.deadline (last + lease_term k.policy k.pending) }

-- the values of a table, moved ahead of it; those of one that cannot grant, or that saves for no grants, stay what they are
abbrev pub ahead_of : Ahead → Kept → Kept
ahead_of ahead k =
    if can_grant k && nat_lt 0 ahead.grants
    then after_grants k (min (k.granted + ahead.grants) k.policy.numbers) (min (k.last + ahead.ticks) (READINGS - 1))
    else k

-- nothing has to be saved, and no bytes are given
abbrev pub IsNothingGiven : Output ℕ → Output ℕ → Answer → Type 0
IsNothingGiven was now answer = (answer ≡ answers.Done) × (now ≡ output was.buffer 0)

-- no bytes are given where the saved values cover the table; else those to save in their place are
abbrev pub IsSavedOver : List ℕ → Ahead → Kept → Kept → Output ℕ → Output ℕ → Answer → Type 0
IsSavedOver job ahead table saved was now answer =
    (Covers table saved × IsNothingGiven was now answer)
    ⊎ ((Covers table saved → ⊥) × IsKeptGiven job (ahead_of ahead table) was now answer)

-- saved values of no table of the policy are refused for their first fault; where they have none, memory may run out
abbrev pub IsSavedUnless : Option KeptFault → List ℕ → Ahead → Kept → Kept → Output ℕ → Output ℕ → Answer → Type 0
IsSavedUnless None job ahead table saved was now answer = IsSavedOver job ahead table saved was now answer ⊎ IsOutOfMemory was now answer
IsSavedUnless (Some why) job ahead table saved was now answer = (answer ≡ answers.Kept why) × (now ≡ was)

-- what is done about saved values
abbrev pub IsSavedAfter : List ℕ → Ahead → Kept → Kept → Output ℕ → Output ℕ → Answer → Type 0
IsSavedAfter job ahead table saved was now answer =
    IsSavedUnless (first_of (kept_checks table.policy saved)) job ahead table saved was now answer

-- the same where the saved values were read
abbrev pub IsSavedFrom : List ℕ → Ahead → Kept → Output ℕ → Output ℕ → Answer → Result Kept DecodeError → Type 0
IsSavedFrom job ahead table was now answer = OnRead (now ≡ was) answer (λ saved. IsSavedAfter job ahead table saved was now answer)

-- where nothing is saved yet, all is given that is to be saved
abbrev pub IsSaved : List ℕ → Ahead → Kept → List ℕ → Output ℕ → Output ℕ → Answer → Type 0
IsSaved job ahead table [] was now answer = IsKeptGiven job (ahead_of ahead table) was now answer
IsSaved job ahead table (byte ∷ bytes) was now answer =
    IsReadFrom job (codes "kept") kept_of (byte ∷ bytes) (IsSavedFrom job ahead table was now answer)
