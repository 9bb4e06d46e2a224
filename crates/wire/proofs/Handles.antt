-- What is written of a handle is read as the handle.
use Rattle.std.proofs.Common.{◌≡◌, ◌^◌, ◌<◌, ◌≤◌, Ok, refl, arith}
use Rattle.std.proofs.lemmas.Bool.{lt-ltb}
use Rattle.serde_json.specs.Data.{Data}
use Rattle.slice_ranges.specs.declared.key.TheConstants.{KEYS}
use Rattle.assignment.specs.declared.task.TheConstants.{TASKS}
use Rattle.key_handle.specs.declared.handle.KeyHandle.{KeyHandle}
use Rattle.wire.specs.declared.numerals.Numerals.TheVariants.{Quoted}
use Rattle.wire.specs.Handles.{handle_data, handle_of}
use Rattle.wire.specs.Messages.{IsWritten}
use Rattle.wire.specs.Refusals.{or_wrong}
use Rattle.wire.proofs.Digits.{digits_read}
use Rattle.wire.proofs.Numbers.{is_life, is_task}

pub handle_read : (handle : KeyHandle) → handle.life < 2 ^ 32 → 1 ≤ handle.task → handle.task ≤ TASKS → handle.key < KEYS → handle.position < 2 ^ 64
    → handle_of Quoted (handle_data Quoted handle) ≡ Ok handle
unfolding handle_of
handle_read handle life low high key position =
    rw (is_task handle.task TASKS low high, is_life handle.life life, digits_read handle.key (omega (arith, key)), lt-ltb handle.key KEYS key, digits_read handle.position position) refl

pub handle_written : (handle : KeyHandle) (d : Data) → d ≡ handle_data Quoted handle → handle_of Quoted (handle_data Quoted handle) ≡ Ok handle → IsWritten handle_data (λ numerals d. or_wrong (handle_of numerals d)) handle d
handle_written handle d is reads = record {
  is = is;
  reads = rw (is, reads) refl;
  whole = rw is refl;
  shallow = rw is (omega arith);
  once = rw is refl;
}
