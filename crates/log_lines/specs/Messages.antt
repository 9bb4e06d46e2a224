-- The message that a call delivers, or that it made.
use Rattle.std.specs.Prelude.{ℕ, Bool, true, List, codes, Result, Ok, Err}
use Rattle.grants.specs.declared.kept.Kept.{Kept}
use Rattle.grants.specs.Assignments.{generation_of}
use Rattle.log_line.specs.Calls.{numbers_of}
use Rattle.wire.specs.declared.fault.DecodeError.{DecodeError}
use Rattle.wire.specs.Assignments.{assignment_of}
use Rattle.wire.specs.Grants.{grant_of}
use Rattle.wire.specs.Kept.{kept_of}
use Rattle.wire.specs.Notes.{note_of}
use Rattle.wire.specs.Refusals.{or_wrong}
use Rattle.c_calls.specs.Reading.{IsReadFrom}
use Rattle.log_lines.specs.declared.call_name.CallName.{CallName}
use Rattle.log_lines.specs.declared.call_name.CallName.TheVariants.{Table, Restore, Task, Learn}
use Rattle.log_lines.specs.declared.call_name.TableCallName.TheVariants as table
use Rattle.log_lines.specs.declared.call_name.TaskCallName.TheVariants as task
use Rattle.log_lines.specs.declared.message.MessageKind.{MessageKind}
use Rattle.log_lines.specs.declared.message.MessageKind.TheVariants as kind
use Rattle.log_lines.specs.declared.message.Message.{Message}
use Rattle.log_lines.specs.declared.message.Message.TheVariants as message

-- what a call delivers, and what a grant and a release that are done made; other calls have no message
abbrev pub message_kind : CallName → Bool → MessageKind
message_kind (Table table.Propose) done = kind.Assignment
message_kind (Table table.Free) done = kind.Note
message_kind (Table table.Grant) true = kind.Grant
message_kind (Task task.Hear) done = kind.Grant
message_kind (Task task.Release) true = kind.Note
message_kind Learn done = kind.Assignment
message_kind Restore done = kind.Kept
message_kind _ _ = kind.Nothing

-- of kept values, what their line says
abbrev pub kept_message : Kept → Message
kept_message kept = message.Kept (numbers_of kept) (generation_of kept.committed)

-- the message that was read, or why none was
abbrev pub message_read : {A : Type 0} → (A → Message) → Result A DecodeError → Result Message DecodeError
message_read made (Ok value) = Ok (made value)
message_read made (Err why) = Err why

-- what a call does with the message of a kind that was read of the bytes, which is one of the job; without a message no bytes are read
abbrev pub IsMessageRead : MessageKind → List ℕ → List ℕ → (Result Message DecodeError → Type 0) → Type 0
IsMessageRead kind.Nothing job bytes does = does (Ok message.Nothing)
IsMessageRead kind.Assignment job bytes does =
    IsReadFrom job (codes "assignment") assignment_of bytes (λ read. does (message_read message.Assignment read))
IsMessageRead kind.Grant job bytes does = IsReadFrom job (codes "grant") grant_of bytes (λ read. does (message_read message.Grant read))
IsMessageRead kind.Note job bytes does =
    IsReadFrom job (codes "note") (λ numerals d. or_wrong (note_of numerals d)) bytes (λ read. does (message_read message.Note read))
IsMessageRead kind.Kept job bytes does = IsReadFrom job (codes "kept") kept_of bytes (λ read. does (message_read kept_message read))
