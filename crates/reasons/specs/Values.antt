-- What a task holds, as it is seen from a key, and the written rule over these values.
use Rattle.std.specs.Prelude.{◌≡◌, ℕ, ◌==◌, ◌&&◌, Bool, nat_lt, Option, Some, None, option_map, if◌then◌else◌}
use Rattle.lease_rule.specs.declared.lease.Kind.{Kind}
use Rattle.lease_rule.specs.declared.lease.Kind.TheVariants.{Guard, Bridge}
use Rattle.lease_rule.specs.declared.answer.Ground.TheVariants.{Ended, NotOwned}
use Rattle.lease_rule.specs.declared.answer.Verdict.{Verdict}
use Rattle.lease_rule.specs.declared.answer.Verdict.TheVariants.{Allow, Deny}
use Rattle.lease_rule.specs.Leases.{SeenLease}
use Rattle.lease_rule.specs.Rule.{SeenHolding, rule}
use Rattle.grants.specs.declared.values.Grant.{Grant}
use Rattle.grants.specs.Assignments.{generation_of, slices_of}
use Rattle.assignment.specs.Owners.{owners_of}
use Rattle.lease_table.specs.Tables.{Standing}
use Rattle.slicelet.specs.Rules.{covers_key}
use Rattle.slicelet.specs.States.{SliceletState}
use Rattle.reasons.specs.declared.places.HeardPlaces.{HeardPlaces}
use Rattle.reasons.specs.declared.reason.LeaseValues.{LeaseValues}
use Rattle.reasons.specs.declared.reason.RuleValues.{RuleValues}
use Rattle.reasons.specs.declared.reason.KeyOwners.{KeyOwners}
use Rattle.reasons.specs.declared.reason.RequestReason.{RequestReason}

-- a lease of a kind by its grant, seen from a key, and where it was heard
abbrev pub lease_values : Kind → ℕ → Option ℕ → Grant → LeaseValues
lease_values kind key heard grant = record {
  kind = kind;
  number = grant.number;
  generation = grant.lease.generation;
  ends = grant.lease.ends;
  covers = covers_key key grant;
  heard = heard;
}

-- THE RULE OVER THE VALUES

abbrev pub seen_as : LeaseValues → SeenLease
seen_as lease = record { generation = lease.generation; ends = lease.ends; covers = lease.covers }

abbrev pub holding_by : RuleValues → SeenHolding
holding_by values = record {
  up = values.started;
  last = values.last;
  guard = option_map seen_as values.guard;
  bridge = option_map seen_as values.bridge;
}

abbrev pub rule_by : RuleValues → ℕ → Verdict
rule_by values at = rule (holding_by values) at

-- the first of two leases for which something is so
abbrev pub lease_if : (LeaseValues → Bool) → Option LeaseValues → Option LeaseValues
lease_if is None = None
lease_if is (Some lease) = if is lease then Some lease else None

abbrev pub or_else : Option LeaseValues → Option LeaseValues → Option LeaseValues
or_else None other = other
or_else (Some lease) other = Some lease

abbrev pub first_of_leases : (LeaseValues → Bool) → Option LeaseValues → Option LeaseValues → Option LeaseValues
first_of_leases is first second = or_else (lease_if is first) (lease_if is second)

-- a lease is live and of a generation
abbrev pub is_live_of : ℕ → ℕ → LeaseValues → Bool
is_live_of generation at lease = lease.generation == generation && nat_lt at lease.ends

-- the lease by which a verdict was given
abbrev pub answering_lease : Option LeaseValues → Option LeaseValues → ℕ → Verdict → Option LeaseValues
answering_lease guard bridge at (Allow Guard generation) = guard
answering_lease guard bridge at (Allow Bridge generation) = bridge
answering_lease guard bridge at (Deny Ended) = first_of_leases (λ lease. lease.covers) guard bridge
answering_lease guard bridge at (Deny (NotOwned generation)) = first_of_leases (is_live_of generation at) guard bridge
answering_lease guard bridge at _ = None

abbrev pub number_of : Option LeaseValues → Option ℕ
number_of lease = option_map (λ l. l.number) lease

-- WHOSE VALUES THEY ARE

-- the values of a task that is asked whether it may serve a key at a reading
pub record AreOf (s : SliceletState) (heard : HeardPlaces) (key at : ℕ) (values : RuleValues) : Type 0 where
  pub started : values.started ≡ s.up
  pub last : values.last ≡ s.last
  pub guard : values.guard ≡ option_map (lease_values Guard key heard.guard) s.guard
  pub bridge : values.bridge ≡ option_map (lease_values Bridge key heard.bridge) s.bridge
  pub number : values.number ≡ number_of (answering_lease values.guard values.bridge at (rule_by values at))

-- the owners of a key in the committed assignment
pub record AreOwners (t : Standing) (key : ℕ) (owners : KeyOwners) : Type 0 where
  pub generation : owners.generation ≡ generation_of t.committed
  pub tasks : owners.tasks.items ≡ owners_of (slices_of t.committed) key

pub record IsOfRequest (t : Standing) (s : SliceletState) (heard : HeardPlaces) (key at : ℕ) (reason : RequestReason) : Type 0 where
  pub rule : AreOf s heard key at reason.rule
  pub owners : AreOwners t key reason.owners
