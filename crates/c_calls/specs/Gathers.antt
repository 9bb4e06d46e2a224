-- What the calls of a load book leave and answer.
use Rattle.std.specs.Prelude.{◌≡◌, ◌⊎◌, ◌≤◌, ℕ, List, [], ◌∷◌, length, codes, Option, Some, None, Result, Ok, Err}
use Rattle.assignment.specs.declared.slice.Slice.{Slice}
use Rattle.assignment.specs.Slices.{Slicing}
use Rattle.load_ledger.specs.declared.error.LoadError.{LoadError}
use Rattle.load_ledger.specs.Books.{gather_step, task_total}
use Rattle.load_ledger.specs.Shares.{Share}
use Rattle.wire.specs.Assignments.{assignment_of}
use Rattle.wire.specs.declared.fault.DecodeError.{DecodeError}
use Rattle.c_calls.specs.declared.answer.Answer.{Answer}
use Rattle.c_calls.specs.declared.answer.Answer.TheVariants.{Done, Load, NoMemory}
use Rattle.c_calls.specs.Arguments.{InForm}
use Rattle.c_calls.specs.Outputs.{Output}
use Rattle.c_calls.specs.Reading.{IsReadFrom, OnRead}
use Rattle.c_calls.specs.Taken.{IsMadeAndGiven}
use Rattle.c_calls.specs.declared.loads.record_numbers.RecordNumbers.{RecordNumbers}
use Rattle.c_calls.specs.LoadRecords.{no_share, share_of}

-- the loads that a gather answers are given, or there is no room for them; or there is room, and memory ran out; or the gather is refused
abbrev pub AreLoadsGiven : Result (List ℕ × List ℕ) LoadError → List ℕ → List ℕ → Output ℕ → Output ℕ → Answer → Type 0
AreLoadsGiven (Ok p) old new was now answer =
    IsMadeAndGiven (λ loads given. given ≡ loads) p old new was now answer
    ⊎ ((length p.1 ≤ length was.buffer) × (answer ≡ NoMemory) × (new ≡ old) × (now ≡ was))
AreLoadsGiven (Err why) old new was now answer = (answer ≡ Load why) × (new ≡ old) × (now ≡ was)

-- a share is gathered over slices
abbrev pub IsShareGathered : Share → List Slice → List ℕ → List ℕ → Output ℕ → Output ℕ → Answer → Type 0
IsShareGathered share slices old new was now answer = AreLoadsGiven (gather_step (share ∷ []) slices old) old new was now answer

-- the same where there is a share; else the reason is answered, and nothing is changed
abbrev pub IsGatheredUnless : Option Answer → Share → List Slice → List ℕ → List ℕ → Output ℕ → Output ℕ → Answer → Type 0
IsGatheredUnless (Some why) share slices old new was now answer = (answer ≡ why) × (new ≡ old) × (now ≡ was)
IsGatheredUnless None share slices old new was now answer = IsShareGathered share slices old new was now answer

-- the records of a task are gathered over the assignment that was read
abbrev pub IsGathered : ℕ → List RecordNumbers → List ℕ → List ℕ → Output ℕ → Output ℕ → Answer → Result Slicing DecodeError → Type 0
IsGathered task records old new was now answer = OnRead ((new ≡ old) × (now ≡ was)) answer
    (λ slicing. IsGatheredUnless (no_share task records) (share_of task records) slicing.slices old new was now answer)

-- the bytes were read as an assignment of the job
abbrev pub AreRecordsGathered : List ℕ → List ℕ → ℕ → List RecordNumbers → List ℕ → List ℕ → Output ℕ → Output ℕ → Answer → Type 0
AreRecordsGathered job bytes task records old new was now answer =
    IsReadFrom job (codes "assignment") assignment_of bytes (IsGathered task records old new was now answer)

-- the total of a task is told
abbrev pub IsTotalTold : Option ℕ → List ℕ → ℕ → ℕ → Answer → Type 0
IsTotalTold task book was now answer = InForm task (now ≡ was) answer (λ task. (answer ≡ Done) × (now ≡ task_total book task))
