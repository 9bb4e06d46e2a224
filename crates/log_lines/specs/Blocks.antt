-- The entry and the end of a block of work on a key: the task's clock is read, the slicelet is asked at its value, and the line of that call is given.
use Rattle.std.specs.Prelude.{◌≡◌, ℕ, ℤ, pos, negsuc, List, [], ◌∷◌, replicate, Some}
use Rattle.assignment.specs.declared.slice.TheConstants.{MOST_OWNERS}
use Rattle.clocks.specs.declared.numbers.TaskClockNumbers.{TaskClockNumbers}
use Rattle.clocks.specs.TaskClocks.{read_answer}
use Rattle.slicelet.specs.States.{SliceletState}
use Rattle.c_calls.specs.declared.answer.Answer.{Answer}
use Rattle.c_calls.specs.declared.answer.Answer.TheVariants.{Done}
use Rattle.c_calls.specs.declared.clerks.owners.OwnersNumbers.{OwnersNumbers}
use Rattle.c_calls.specs.declared.tables.terms.PhaseNumbers.{PhaseNumbers}
use Rattle.c_calls.specs.declared.tables.terms.TermNumbers.{TermNumbers}
use Rattle.c_calls.specs.AnswerNumbers.{answer_number}
use Rattle.c_calls.specs.Arguments.{slice_key_of}
use Rattle.c_calls.specs.Details.{answer_details}
use Rattle.c_calls.specs.Outputs.{Output, output}
use Rattle.c_calls.specs.TaskClocks.{IsRead, OnTaskClock}
use Rattle.c_calls.specs.slicelets.KeyHandles.{check_answer, handle_of}
use Rattle.c_calls.specs.slicelets.SliceKeys.{IsServedAt, covering_told, hold_numbers_at}
use Rattle.log_lines.specs.declared.blocks.BlockNumbers.{BlockNumbers}
use Rattle.log_lines.specs.declared.numbers.LoggedNumbers.{LoggedNumbers}
use Rattle.log_lines.specs.Lines.{IsLineOfNumbers}

-- what a call of a block may change: the task's clock, what is written of the call, and the caller's buffer for the line
pub record Kept : Type 0 where
  pub clock : TaskClockNumbers
  pub block : BlockNumbers
  pub line : Output ℕ

abbrev pub kept : TaskClockNumbers → BlockNumbers → Output ℕ → Kept
kept clock block line = record { clock = clock; block = block; line = line }

-- THE LINE

-- what a line has that a call of a block does not set
abbrev pub no_term : TermNumbers
no_term = record { number = 0; assigner = 0; until = 0 }

abbrev pub no_phase : PhaseNumbers
no_phase = record { committed = 0; proposed = 0 }

abbrev pub no_owners : OwnersNumbers
no_owners = record { generation = 0; count = 0; tasks = replicate MOST_OWNERS 0 }

-- the numbers of the line of a call of a slicelet, by what was written of it
abbrev pub block_line : ℕ → ℤ → ℕ → ℕ → BlockNumbers → LoggedNumbers
block_line call code task key block = record {
  ticket = block.ticket;
  call = call;
  code = code;
  task = task;
  clerk = 0;
  assigner = 0;
  term = 0;
  at = block.at;
  slice_key = key;
  life = 0;
  kind = 0;
  count = 0;
  told = block.told;
  job_term = no_term;
  phase = no_phase;
  handle = block.handle;
  owners = no_owners;
  sent = 0;
  reading = 0;
}

-- a line is given as that of any call; a buffer of length 0 wants none
abbrev pub IsLineIn : List ℕ → List ℕ → LoggedNumbers → Output ℕ → Output ℕ → Answer → Type 0
IsLineIn [] job n was now answer = (answer ≡ Done) × (now ≡ output was.buffer 0)
IsLineIn (byte ∷ bytes) job n was now answer = IsLineOfNumbers (Some job) n [] was now answer

-- where the line was given, the call is answered, and the clock and what was written of the call are kept; else why there is no line is answered
abbrev pub IsLeft : Answer → Answer → TaskClockNumbers → BlockNumbers → Kept → Kept → Answer → Type 0
IsLeft Done made clock block was now answer = (answer ≡ made) × (now.clock ≡ clock) × (now.block ≡ block)
IsLeft why made clock block was now answer = (answer ≡ why) × (now.clock ≡ was.clock) × (now.block ≡ was.block)

pub record IsNoted (job : List ℕ) (n : LoggedNumbers) (made : Answer) (clock : TaskClockNumbers) (block : BlockNumbers) (was now : Kept) (answer : Answer) : Type 0 where
  pub line : Answer
  pub given : IsLineIn was.line.buffer job n was.line now.line line
  pub left : IsLeft line made clock block was now answer

-- a call has a line; one with a negative code was no call of the job, and nothing is changed
abbrev pub IsNotedAs : ℤ → List ℕ → LoggedNumbers → Answer → TaskClockNumbers → BlockNumbers → Kept → Kept → Answer → Type 0
IsNotedAs (pos code) job n made clock block was now answer = IsNoted job n made clock block was now answer
IsNotedAs (negsuc code) job n made clock block was now answer = (answer ≡ made) × (now ≡ was)

-- THE CLOCK

-- the call is made at the value of the clock; where the clock refuses, why is answered, and nothing is changed
abbrev pub OnReading : Answer → Type 0 → Kept → Kept → Answer → Type 0
OnReading Done made was now answer = made
OnReading why made was now answer = (answer ≡ why) × (now ≡ was)

pub record AtClock (local : ℕ) (does : TaskClockNumbers → ℕ → Type 0) (was now : Kept) (answer : Answer) : Type 0 where
  pub clock : TaskClockNumbers
  pub at : ℕ
  pub reading : Answer
  pub is_read : OnTaskClock was.clock clock reading (at ≡ was.block.at)
      (λ known. IsRead known local was.clock clock was.block.at at reading (read_answer known local))
  pub made : OnReading reading (does clock at) was now answer

-- THE ENTRY: a handle on the key is asked for

-- what is written of an entry
abbrev pub entered : ℕ → SliceletState → ℕ → Answer → BlockNumbers → BlockNumbers
entered key s at held was = record {
  ticket = was.ticket;
  at = at;
  handle = hold_numbers_at (slice_key_of key) s at was.handle;
  told = answer_details held (covering_told (slice_key_of key) s was.told);
}

pub record IsEnteredAt (job : List ℕ) (key : ℕ) (s : SliceletState) (clock : TaskClockNumbers) (at : ℕ) (was now : Kept) (answer : Answer) : Type 0 where
  pub held : Answer
  pub is_held : IsServedAt (slice_key_of key) s at held
  pub noted : IsNotedAs (answer_number held) job (block_line 15 (answer_number held) s.task key (entered key s at held was.block)) held clock
      (entered key s at held was.block) was now answer

abbrev pub IsEntered : List ℕ → ℕ → SliceletState → ℕ → Kept → Kept → Answer → Type 0
IsEntered job key s local was now answer = AtClock local (λ clock at. IsEnteredAt job key s clock at was now answer) was now answer

-- THE END: the handle is checked

-- what is written of an end
abbrev pub left : ℕ → BlockNumbers → BlockNumbers
left at was = record was { at = at }

abbrev pub IsLeftAt : List ℕ → SliceletState → TaskClockNumbers → ℕ → Kept → Kept → Answer → Type 0
IsLeftAt job s clock at was now answer =
    let checked = check_answer (handle_of was.block.handle) s at in
    IsNotedAs (answer_number checked) job (block_line 16 (answer_number checked) s.task was.block.handle.slice_key (left at was.block)) checked clock
    (left at was.block) was now answer

abbrev pub IsEnded : List ℕ → SliceletState → ℕ → Kept → Kept → Answer → Type 0
IsEnded job s local was now answer = AtClock local (λ clock at. IsLeftAt job s clock at was now answer) was now answer
