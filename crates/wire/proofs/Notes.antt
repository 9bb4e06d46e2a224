-- What is written of a note is read as the note.
use Rattle.std.proofs.Common.{◌≡◌, ◌^◌, ◌<◌, ◌≤◌, Ok, refl, arith}
use Rattle.lease_rule.specs.declared.lease.Kind.{Kind}
use Rattle.lease_rule.specs.declared.lease.Kind.TheVariants.{Guard, Bridge}
use Rattle.assignment.specs.declared.task.TheConstants.{TASKS}
use Rattle.grants.specs.declared.values.ReleaseNote.{ReleaseNote}
use Rattle.wire.specs.declared.numerals.Numerals.TheVariants.{Quoted}
use Rattle.wire.specs.LeaseMembers.{kind_named, kind_word}
use Rattle.serde_json.specs.Data.{Data}
use Rattle.wire.specs.Messages.{IsWritten}
use Rattle.wire.specs.Refusals.{or_wrong}
use Rattle.wire.specs.Notes.{note_data, note_of}
use Rattle.wire.proofs.Digits.{digits_read}
use Rattle.wire.proofs.Numbers.{is_life, is_task}

pub kind_read : (kind : Kind) → kind_named (kind_word kind) ≡ Ok kind
kind_read Guard = refl
kind_read Bridge = refl

pub note_read : (note : ReleaseNote) → note.life < 2 ^ 32 → 1 ≤ note.task → note.task ≤ TASKS → note.number < 2 ^ 64 → note_of Quoted (note_data Quoted note) ≡ Ok note
unfolding note_of
note_read note life low high number = rw (is_task note.task TASKS low high, is_life note.life life, kind_read note.kind, digits_read note.number number) refl

pub note_written : (note : ReleaseNote) (d : Data) → d ≡ note_data Quoted note → note_of Quoted (note_data Quoted note) ≡ Ok note → IsWritten note_data (λ numerals d. or_wrong (note_of numerals d)) note d
note_written note d is reads = record {
  is = is;
  reads = rw (is, reads) refl;
  whole = rw is refl;
  shallow = rw is (omega arith);
  once = rw is refl;
}
