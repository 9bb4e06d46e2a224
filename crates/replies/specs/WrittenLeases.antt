-- Leases as scripts write them.
use Rattle.std.specs.Prelude.{[], ◌∷◌, codes, Result, Ok}
use Rattle.serde_json.specs.Data.{Data}
use Rattle.program_io.specs.declared.fault.WrongForm.{WrongForm}
use Rattle.program_io.specs.Reading.{◌>>=◌, ◌>>◌}
use Rattle.program_io.specs.Members.{exactly, number_at, list_at, two_numbers_of}
use Rattle.wire.specs.LeaseMembers.{kind_at}
use Rattle.replies.specs.declared.written_lease.WrittenLease.{WrittenLease}

-- a lease: four members and no other; a range is written as `[start, end]`
unfoldable pub lease_of : Data → Result WrittenLease WrongForm
lease_of d = do
  exactly (codes "kind" ∷ codes "generation" ∷ codes "ranges" ∷ codes "ends" ∷ []) d
  kind ← kind_at (codes "kind") d
  generation ← number_at (codes "generation") d
  ranges ← list_at two_numbers_of (codes "ranges") d
  ends ← number_at (codes "ends") d
  Ok (record { kind = kind; generation = generation; ranges = ranges; ends = ends })
