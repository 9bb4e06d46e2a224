-- Grants as JSON.
use Rattle.std.specs.Prelude.{[], ◌∷◌, codes, Result, Ok}
use Rattle.serde_json.specs.Data.{Data}
use Rattle.grants.specs.declared.values.Grant.{Grant}
use Rattle.program_io.specs.Reading.{◌>>=◌, ◌>>◌}
use Rattle.program_io.specs.Members.{exactly, member_at}
use Rattle.wire.specs.declared.fault.DecodeRefusal.{DecodeRefusal}
use Rattle.wire.specs.declared.numerals.Numerals.{Numerals}
use Rattle.wire.specs.LeaseMembers.{kind_at, kind_data, life_at, task_at}
use Rattle.wire.specs.Numerals.{numeral_at, numeral_data}
use Rattle.wire.specs.Objects.{number_data, object_data}
use Rattle.wire.specs.Ranges.{ranges_data, ranges_of}
use Rattle.wire.specs.Refusals.{or_wrong}

-- `{"ends":E,"generation":G,"kind":KIND,"life":L,"number":N,"ranges":[[START,END],..],"task":T,"until":U}`
abbrev pub grant_data : Numerals → Grant → Data
grant_data numerals grant = object_data
    ((codes "ends", numeral_data numerals grant.lease.ends) ∷
    (codes "generation", numeral_data numerals grant.lease.generation) ∷
    (codes "kind", kind_data grant.lease.kind) ∷
    (codes "life", number_data grant.life) ∷
    (codes "number", numeral_data numerals grant.number) ∷
    (codes "ranges", ranges_data numerals grant.lease.ranges) ∷
    (codes "task", number_data grant.task) ∷
    (codes "until", numeral_data numerals grant.table_ends) ∷ [])

-- a grant has the members of a lease, and for whom it is; `until` is the table's deadline
unfoldable pub grant_of : Numerals → Data → Result Grant DecodeRefusal
grant_of numerals d = do
  or_wrong (exactly (codes "ends" ∷ codes "generation" ∷ codes "kind" ∷ codes "life" ∷ codes "number" ∷ codes "ranges" ∷ codes "task" ∷ codes "until" ∷ []) d)
  number ← or_wrong (numeral_at numerals (codes "number") d)
  task ← or_wrong (task_at (codes "task") d)
  life ← or_wrong (life_at (codes "life") d)
  kind ← or_wrong (kind_at (codes "kind") d)
  generation ← or_wrong (numeral_at numerals (codes "generation") d)
  ends ← or_wrong (numeral_at numerals (codes "ends") d)
  until ← or_wrong (numeral_at numerals (codes "until") d)
  ranges ← or_wrong (member_at (codes "ranges") d) >>= ranges_of numerals
  Ok (record { number = number; task = task; life = life; lease = record { kind = kind; generation = generation; ranges = ranges; ends = ends }; table_ends = until })
