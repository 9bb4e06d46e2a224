-- Stretches, and when handles break.
use Rattle.std.specs.Prelude.{ℕ, [], ◌∷◌, codes}
use Rattle.serde_json.specs.Data.{Data}
use Rattle.wire.specs.LeaseMembers.{kind_data}
use Rattle.wire.specs.Objects.{number_data, object_data}
use Rattle.stretches.specs.declared.breaks.GivenHandle.{GivenHandle}
use Rattle.stretches.specs.declared.stretch.ServingLease.{ServingLease}
use Rattle.stretches.specs.declared.stretch.Stretch.{Stretch}
use Rattle.reply_values.specs.Values.{large_data}

abbrev pub serving_data : ServingLease → Data
serving_data lease = object_data
    ((codes "generation", large_data lease.generation) ∷ (codes "kind", kind_data lease.kind) ∷ (codes "number", large_data lease.number) ∷ [])

-- a stretch of a task
abbrev pub stretch_data : ℕ → Stretch → Data
stretch_data task stretch = object_data ((
  codes "stretch",
  object_data
      ((codes "from", large_data stretch.from) ∷ (codes "lease", serving_data stretch.lease) ∷ (codes "process", number_data stretch.process)
      ∷ (codes "task", number_data task) ∷ (codes "to", large_data stretch.to) ∷ []),
) ∷ [])

-- when a handle breaks, by the number in the reply that gave it
abbrev pub broken_data : GivenHandle → Data
broken_data given = object_data
    ((codes "broken", object_data ((codes "breaks", large_data given.breaks) ∷ (codes "handle", number_data given.number) ∷ [])) ∷ [])
