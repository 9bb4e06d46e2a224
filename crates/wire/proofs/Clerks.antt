-- What is written of a clerk is read as the clerk.
use Rattle.std.proofs.Common.{◌≡◌, Option, Ok, refl, arith}
use Rattle.serde_json.specs.Data.{Data}
use Rattle.assignment.specs.Slices.{Slicing}
use Rattle.wire.specs.declared.numerals.Numerals.TheVariants.{Quoted}
use Rattle.wire.specs.Clerks.{clerk_data, clerk_of}
use Rattle.wire.specs.Messages.{IsWritten}
use Rattle.wire.proofs.KeptValues.{assignment_once, assignment_shallow, assignment_whole}

pub clerk_written : (kept : Option Slicing) (d : Data) → d ≡ clerk_data Quoted kept → clerk_of Quoted (clerk_data Quoted kept) ≡ Ok kept → IsWritten clerk_data clerk_of kept d
clerk_written kept d is reads = record {
  is = is;
  reads = rw (is, reads) refl;
  whole = rw (is, assignment_whole kept) refl;
  shallow = rw is (omega (arith, assignment_shallow kept));
  once = rw (is, assignment_once kept) refl;
}
