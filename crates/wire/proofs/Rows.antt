-- What is written of a row is read as the row.
use Rattle.std.proofs.Common.{◌≡◌, ◌^◌, ◌<◌, ◌≤◌, Ok, refl, arith}
use Rattle.assignment.specs.declared.task.TheConstants.{TASKS}
use Rattle.grants.specs.declared.values.Row.{Row}
use Rattle.serde_json.specs.Data.{Data}
use Rattle.wire.specs.declared.numerals.Numerals.TheVariants.{Quoted}
use Rattle.wire.specs.Messages.{IsWritten}
use Rattle.wire.specs.Refusals.{or_wrong}
use Rattle.wire.specs.Rows.{row_data, row_of}
use Rattle.wire.proofs.Digits.{digits_read}
use Rattle.wire.proofs.Notes.{kind_read}
use Rattle.wire.proofs.Numbers.{is_life, is_task}

pub row_read : (row : Row) → row.number < 2 ^ 64 → row.life < 2 ^ 32 → 1 ≤ row.task → row.task ≤ TASKS → row.generation < 2 ^ 64 → row.table_ends < 2 ^ 64 → row_of Quoted (row_data Quoted row) ≡ Ok row
unfolding row_of
row_read row number life low high generation until =
    rw (digits_read row.number number, is_task row.task TASKS low high, is_life row.life life, kind_read row.kind, digits_read row.generation generation, digits_read row.table_ends until) refl

pub row_written : (row : Row) (d : Data) → d ≡ row_data Quoted row → row_of Quoted (row_data Quoted row) ≡ Ok row → IsWritten row_data (λ numerals d. or_wrong (row_of numerals d)) row d
row_written row d is reads = record {
  is = is;
  reads = rw (is, reads) refl;
  whole = rw is refl;
  shallow = rw is (omega arith);
  once = rw is refl;
}
