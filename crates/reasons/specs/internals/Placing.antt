-- What one accepted call makes of the places of its task.
use Rattle.std.specs.Prelude.{ℕ, [], Some, None}
use Rattle.lease_rule.specs.declared.lease.Kind.{Kind}
use Rattle.lease_rule.specs.declared.lease.Kind.TheVariants.{Guard, Bridge}
use Rattle.grants.specs.declared.slicelet_call.SliceletCall.{SliceletCall}
use Rattle.grants.specs.declared.slicelet_call.SliceletCall.TheVariants.{Hear}
use Rattle.reasons.specs.declared.places.HeardPlaces.{HeardPlaces}
use Rattle.reasons.specs.declared.places.TaskPlaces.{TaskPlaces}
use Rattle.reasons.specs.Placed.{with_place}

abbrev pub no_places : TaskPlaces
no_places = record { heard = record { guard = None; bridge = None }; calls = [] }

abbrev pub heard_of : Kind → ℕ → HeardPlaces → HeardPlaces
heard_of Guard place heard = record heard { guard = Some place }
heard_of Bridge place heard = record heard { bridge = Some place }

abbrev pub heard_after : SliceletCall → ℕ → HeardPlaces → HeardPlaces
heard_after (Hear grant at) place heard = heard_of grant.lease.kind place heard
heard_after _ place heard = heard

abbrev pub places_after : SliceletCall → ℕ → TaskPlaces → TaskPlaces
places_after c place before = record { heard = heard_after c place before.heard; calls = with_place c place before.calls }
