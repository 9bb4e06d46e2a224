-- What is written of a head is read as the head.
use Rattle.std.proofs.Common.{◌≡◌, ◌^◌, ◌<◌, Ok, refl, arith}
use Rattle.serde_json.specs.Data.{Data}
use Rattle.wire.specs.declared.numerals.Numerals.TheVariants.{Quoted}
use Rattle.wire.specs.Messages.{IsWritten}
use Rattle.wire.specs.Refusals.{or_wrong}
use Rattle.wire.proofs.Digits.{digits_read}
use Rattle.wire.proofs.Numbers.{is_life}
use Rattle.snapshot_text.specs.declared.head.Head.{Head}
use Rattle.snapshot_text.specs.declared.task_head.TaskHead.{TaskHead}
use Rattle.snapshot_text.specs.Heads.{head_data, head_of, task_head_data, task_head_of}

pub head_read : (head : Head) → head.grace < 2 ^ 64 → head.notes_made < 2 ^ 64 → head.handles_made < 2 ^ 64 → head.table_reading < 2 ^ 64
    → head_of Quoted (head_data Quoted head) ≡ Ok head
unfolding head_of
head_read head grace notes handles reading =
    rw (digits_read head.grace grace, digits_read head.notes_made notes, digits_read head.handles_made handles, digits_read head.table_reading reading) refl

pub head_written : (head : Head) (d : Data) → d ≡ head_data Quoted head → head_of Quoted (head_data Quoted head) ≡ Ok head → IsWritten head_data (λ numerals d. or_wrong (head_of numerals d)) head d
head_written head d is reads = record {
  is = is;
  reads = rw (is, reads) refl;
  whole = rw is refl;
  shallow = rw is (omega arith);
  once = rw is refl;
}

pub task_head_read : (head : TaskHead) → head.life < 2 ^ 32 → task_head_of (task_head_data Quoted head) ≡ Ok head
unfolding task_head_of
task_head_read head life = rw (is_life head.life life) refl

pub task_head_written : (head : TaskHead) (d : Data) → d ≡ task_head_data Quoted head → task_head_of (task_head_data Quoted head) ≡ Ok head → IsWritten task_head_data (λ _ d. or_wrong (task_head_of d)) head d
task_head_written head d is reads = record {
  is = is;
  reads = rw (is, reads) refl;
  whole = rw is refl;
  shallow = rw is (omega arith);
  once = rw is refl;
}
