-- A grant on its way into a task: the task's clock is read, the grant is weighed and heard at its value, and the line of that call is given.
use Rattle.std.specs.Prelude.{◌≡◌, ◌⊎◌, ◌==◌, ℕ, ℤ, pos, negsuc, Bool, true, false, List, [], ◌∷◌, codes, Result}
use Rattle.clocks.specs.declared.numbers.TaskClockNumbers.{TaskClockNumbers}
use Rattle.clocks.specs.TaskClocks.{read_answer}
use Rattle.grants.specs.declared.values.Grant.{Grant}
use Rattle.grants.specs.Policies.{Terms, is_policy}
use Rattle.slicelet.specs.States.{SliceletState}
use Rattle.wire.specs.declared.fault.DecodeError.{DecodeError}
use Rattle.wire.specs.Grants.{grant_of}
use Rattle.c_calls.specs.declared.answer.Answer.{Answer}
use Rattle.c_calls.specs.declared.answer.Answer.TheVariants.{Done, NoMemory, WrongForm}
use Rattle.c_calls.specs.declared.policy_numbers.PolicyNumbers.{PolicyNumbers}
use Rattle.c_calls.specs.declared.slicelets.handle_numbers.HandleNumbers.{HandleNumbers}
use Rattle.c_calls.specs.AnswerNumbers.{answer_number}
use Rattle.c_calls.specs.ClockEvidence.{IsWeight}
use Rattle.c_calls.specs.Details.{answer_details}
use Rattle.c_calls.specs.Outputs.{Output, output}
use Rattle.c_calls.specs.PolicyNumbers.{terms_of}
use Rattle.c_calls.specs.Reading.{IsReadFrom, OnRead}
use Rattle.c_calls.specs.TaskClocks.{IsRead, OnTaskClock}
use Rattle.c_calls.specs.slicelets.Calls.{IsHeardGrant}
use Rattle.log_lines.specs.declared.call_name.CallName.TheVariants as name
use Rattle.log_lines.specs.declared.call_name.TaskCallName.TheVariants as task
use Rattle.log_lines.specs.declared.message.Message.TheVariants as message
use Rattle.log_lines.specs.declared.numbers.LoggedNumbers.{LoggedNumbers}
use Rattle.log_lines.specs.declared.receipts.ReceiptNumbers.{ReceiptNumbers}
use Rattle.log_lines.specs.Blocks.{block_line}
use Rattle.log_lines.specs.Lines.{IsLineGiven}
use Rattle.log_lines.specs.Replies.{logged_in}

-- what a call that receives a grant may change: the slicelet, the task's clock, what is written of the call, and the caller's buffer for the line
pub record Received : Type 0 where
  pub slicelet : SliceletState
  pub clock : TaskClockNumbers
  pub receipt : ReceiptNumbers
  pub line : Output ℕ

abbrev pub received : SliceletState → TaskClockNumbers → ReceiptNumbers → Output ℕ → Received
received slicelet clock receipt line = record { slicelet = slicelet; clock = clock; receipt = receipt; line = line }

-- THE LINE

abbrev pub no_handle : HandleNumbers
no_handle = record { task = 0; slice_key = 0; position = 0; life = 0 }

-- the numbers of the line of a grant that was heard or refused, by what was written of it
abbrev pub receipt_line : ℤ → ℕ → ReceiptNumbers → LoggedNumbers
receipt_line code task receipt =
    block_line 12 code task 0 (record { ticket = receipt.ticket; at = receipt.at; handle = no_handle; told = receipt.told })

-- the line is that which is given of any call whose message was read as the grant; a buffer of length 0 wants none
abbrev pub IsHeardLineIn : List ℕ → LoggedNumbers → Grant → Output ℕ → Output ℕ → Answer → Type 0
IsHeardLineIn [] n grant was now answer = (answer ≡ Done) × (now ≡ output was.buffer 0)
IsHeardLineIn (byte ∷ bytes) n grant was now answer = IsLineGiven n (logged_in (name.Task task.Hear) n (message.Grant grant)) was now answer

-- THE GRANT IS HEARD

-- where the line was given, the call is answered, and what it left is kept; else why there is no line is answered, and all else is as it was
abbrev pub IsKept : Answer → Answer → SliceletState → TaskClockNumbers → ReceiptNumbers → Received → Received → Answer → Type 0
IsKept Done made slicelet clock receipt was now answer =
    (answer ≡ made) × (now.slicelet ≡ slicelet) × (now.clock ≡ clock) × (now.receipt ≡ receipt)
IsKept why made slicelet clock receipt was now answer =
    (answer ≡ why) × (now.slicelet ≡ was.slicelet) × (now.clock ≡ was.clock) × (now.receipt ≡ was.receipt)

pub record IsKeptWithLine (n : LoggedNumbers) (grant : Grant) (made : Answer) (slicelet : SliceletState) (clock : TaskClockNumbers) (receipt : ReceiptNumbers) (was now : Received) (answer : Answer) : Type 0 where
  pub line : Answer
  pub given : IsHeardLineIn was.line.buffer n grant was.line now.line line
  pub kept : IsKept line made slicelet clock receipt was now answer

-- a call has a line; one with a negative code was no call of the job, and nothing is changed
abbrev pub IsKeptAs : ℤ → LoggedNumbers → Grant → Answer → SliceletState → TaskClockNumbers → ReceiptNumbers → Received → Received → Answer → Type 0
IsKeptAs (pos code) n grant made slicelet clock receipt was now answer = IsKeptWithLine n grant made slicelet clock receipt was now answer
IsKeptAs (negsuc code) n grant made slicelet clock receipt was now answer = (answer ≡ made) × (now ≡ was)

-- what is written of a grant that was heard or refused
abbrev pub heard : Answer → ReceiptNumbers → ReceiptNumbers
heard held receipt = record receipt { told = answer_details held receipt.told }

pub record IsHeardAt (grant : Grant) (clock : TaskClockNumbers) (receipt : ReceiptNumbers) (was now : Received) (answer : Answer) : Type 0 where
  pub left : SliceletState
  pub held : Answer
  pub is_heard : IsHeardGrant grant receipt.at was.slicelet left held
  pub kept : IsKeptAs (answer_number held) (receipt_line (answer_number held) was.slicelet.task (heard held receipt)) grant held left clock
      (heard held receipt) was now answer

-- the same; or, where a line is wanted, memory ran out before anything was changed
abbrev pub IsHeardUnlessMemory : List ℕ → Grant → TaskClockNumbers → ReceiptNumbers → Received → Received → Answer → Type 0
IsHeardUnlessMemory [] grant clock receipt was now answer = IsHeardAt grant clock receipt was now answer
IsHeardUnlessMemory (byte ∷ bytes) grant clock receipt was now answer =
    IsHeardAt grant clock receipt was now answer ⊎ ((answer ≡ NoMemory) × (now ≡ was))

-- THE GRANT IS WEIGHED

-- a grant that shows that clocks are not timely is not heard, and has no line
abbrev pub IsStopped : TaskClockNumbers → ReceiptNumbers → Received → Received → Answer → Type 0
IsStopped clock receipt was now answer = (answer ≡ Done) × (now ≡ received was.slicelet clock receipt (output was.line.buffer 0))

abbrev pub OnWeight : Bool → Grant → TaskClockNumbers → ReceiptNumbers → Received → Received → Answer → Type 0
OnWeight true grant clock receipt was now answer = IsStopped clock receipt was now answer
OnWeight false grant clock receipt was now answer = IsHeardUnlessMemory was.line.buffer grant clock receipt was now answer

-- what is written of a grant that was weighed
abbrev pub weighed : ℕ → ReceiptNumbers → ReceiptNumbers
weighed weight receipt = record receipt { evidence = weight }

pub record IsWeighedAt (policy : Terms) (grant : Grant) (clock : TaskClockNumbers) (receipt : ReceiptNumbers) (was now : Received) (answer : Answer) : Type 0 where
  pub weight : ℕ
  pub is_weight : IsWeight policy grant receipt.at weight
  pub done : OnWeight (weight == 1) grant clock (weighed weight receipt) was now answer

-- THE MESSAGE IS READ ONCE

-- where nothing was read, nothing is changed
abbrev pub IsMessageReceived : Terms → TaskClockNumbers → ReceiptNumbers → Received → Received → Answer → Result Grant DecodeError → Type 0
IsMessageReceived policy clock receipt was now answer = OnRead (now ≡ was) answer (λ grant. IsWeighedAt policy grant clock receipt was now answer)

-- numbers that are no policy change nothing
abbrev pub IsReceivedIn : Bool → List ℕ → Terms → List ℕ → TaskClockNumbers → ReceiptNumbers → Received → Received → Answer → Type 0
IsReceivedIn true job policy bytes clock receipt was now answer =
    IsReadFrom job (codes "grant") grant_of bytes (IsMessageReceived policy clock receipt was now answer)
IsReceivedIn false job policy bytes clock receipt was now answer = (answer ≡ WrongForm) × (now ≡ was)

-- what is written of the reading
abbrev pub read_at : ℕ → ReceiptNumbers → ReceiptNumbers
read_at at receipt = record receipt { at = at }

-- THE CLOCK

-- the call is made at the value of the clock; where the clock refuses, why is answered, and nothing is changed
abbrev pub OnValue : Answer → Type 0 → Received → Received → Answer → Type 0
OnValue Done made was now answer = made
OnValue why made was now answer = (answer ≡ why) × (now ≡ was)

pub record IsReceived (job : List ℕ) (policy : PolicyNumbers) (bytes : List ℕ) (local : ℕ) (was now : Received) (answer : Answer) : Type 0 where
  pub clock : TaskClockNumbers
  pub at : ℕ
  pub reading : Answer
  pub is_read : OnTaskClock was.clock clock reading (at ≡ was.receipt.at)
      (λ known. IsRead known local was.clock clock was.receipt.at at reading (read_answer known local))
  pub made : OnValue reading (IsReceivedIn (is_policy (terms_of policy)) job (terms_of policy) bytes clock (read_at at was.receipt) was now answer) was now answer
