-- The line of a log that is written of a call and of what its caller was told.
use Rattle.std.specs.Prelude.{◌≡◌, ◌==◌, ℕ, ℤ, pos, Bool, false, List, ◌++◌, codes, Option, Ok}
use Rattle.serde_json.specs.Written.{compact_text}
use Rattle.log_line.specs.declared.line.LoggedCall.{LoggedCall}
use Rattle.log_line.specs.declared.line.LoggedLine.{LoggedLine}
use Rattle.log_line.specs.Extensions.{without_extensions}
use Rattle.log_line.specs.Lines.{SaysLine, line_of}
use Rattle.log_line.specs.Told.{plain_text}
use Rattle.c_calls.specs.declared.answer.Answer.{Answer}
use Rattle.c_calls.specs.Arguments.{InForm}
use Rattle.c_calls.specs.Outputs.{IsOneGivenUnlessMemory, Output}
use Rattle.c_calls.specs.Reading.{OnRead}
use Rattle.log_lines.specs.declared.call_name.CallName.{CallName}
use Rattle.log_lines.specs.declared.numbers.LoggedNumbers.{LoggedNumbers}
use Rattle.log_lines.specs.CallNames.{call_named}
use Rattle.log_lines.specs.LineData.{line_data}
use Rattle.log_lines.specs.Messages.{IsMessageRead, message_kind}
use Rattle.log_lines.specs.Replies.{Logged, logged_in}

-- a call at its ticket, with the words that its caller was told
abbrev pub logged_line : ℕ → LoggedCall → List ℕ → LoggedLine
logged_line ticket call words = record { ticket = ticket; call = call; reply = words }

-- what is written of it is read as it
abbrev pub IsReadBack : ℕ → LoggedCall → List ℕ → Type 0
IsReadBack ticket call words = line_of (without_extensions (line_data ticket call words)) ≡ Ok (logged_line ticket call words)

-- the bytes of its line, without the end
abbrev pub line_text : ℕ → LoggedCall → List ℕ → List ℕ
line_text ticket call words = compact_text (line_data ticket call words)

-- THE LINE: it is ended by a line feed, and an audit reads it as this call at this ticket, whose caller was told these words
pub record IsLine (ticket : ℕ) (call : LoggedCall) (words : List ℕ) (text : List ℕ) : Type 0 where
  pub is : text ≡ line_text ticket call words ++ codes "\n"
  pub says : SaysLine (line_text ticket call words) (logged_line ticket call words)

-- the words are those of the reply, in which notes and handles are told by what they say
abbrev pub IsLineOf : ℕ → Logged → List ℕ → Type 0
IsLineOf ticket logged text = IsLine ticket logged.call (plain_text logged.told) text

-- the code is that the call is done
abbrev pub is_done : ℤ → Bool
is_done (pos n) = n == 0
is_done _ = false

-- the line of the call that the numbers and the message say, and of what its caller was told, is given; if they say none, nothing is written
abbrev pub IsLineGiven : LoggedNumbers → Option Logged → Output ℕ → Output ℕ → Answer → Type 0
IsLineGiven n logged was now answer =
    InForm logged (now ≡ was) answer (λ logged. IsOneGivenUnlessMemory (IsLineOf n.ticket logged) was now answer)

-- of a call of this name, whose message is read if it has one
abbrev pub IsNamedLineGiven : List ℕ → CallName → LoggedNumbers → List ℕ → Output ℕ → Output ℕ → Answer → Type 0
IsNamedLineGiven job name n bytes was now answer = IsMessageRead (message_kind name (is_done n.code)) job bytes
    (OnRead (now ≡ was) answer (λ message. IsLineGiven n (logged_in name n message) was now answer))

-- of a call of a job, where there are both
abbrev pub IsLineOfNumbers : Option (List ℕ) → LoggedNumbers → List ℕ → Output ℕ → Output ℕ → Answer → Type 0
IsLineOfNumbers job n bytes was now answer = InForm job (now ≡ was) answer (λ job.
    InForm (call_named n.call) (now ≡ was) answer (λ name. IsNamedLineGiven job name n bytes was now answer))
