-- How a stretch is added to those before it, newest first.
use Rattle.std.specs.Prelude.{◌==◌, Bool, ◌&&◌, List, [], ◌∷◌, Option, Some, None, if◌then◌else◌}
use Rattle.lease_rule.specs.Leases.{same_kind}
use Rattle.stretches.specs.declared.stretch.ServingLease.{ServingLease}
use Rattle.stretches.specs.declared.stretch.Stretch.{Stretch}

-- two leases are the same
abbrev pub same_lease : ServingLease → ServingLease → Bool
same_lease a b = same_kind a.kind b.kind && (a.number == b.number && a.generation == b.generation)

-- another stretch begins where this one ends, under the same lease
abbrev pub goes_on : Stretch → Stretch → Bool
goes_on s next = s.process == next.process && (s.to == next.from && same_lease s.lease next.lease)

-- one more stretch, which lengthens the newest one where that goes on with it
abbrev pub added : Stretch → List Stretch → List Stretch
added s [] = s ∷ []
added s (newest ∷ stretches) = if goes_on newest s then record newest { to = s.to } ∷ stretches else s ∷ newest ∷ stretches

-- the same where there is one
abbrev pub newest_or : Option Stretch → List Stretch → List Stretch
newest_or None stretches = stretches
newest_or (Some s) stretches = added s stretches
