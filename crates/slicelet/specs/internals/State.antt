-- What a slicelet keeps, and the state that it stands for.
use Rattle.std.specs.Prelude.{ℕ, [], Option, Some, None, option_map}
use Rattle.lease_rule.specs.declared.lease.Kind.{Kind}
use Rattle.lease_rule.specs.declared.lease.Kind.TheVariants.{Guard, Bridge}
use Rattle.lease_rule.specs.declared.lease.Lease.{Lease}
use Rattle.lease_rule.specs.declared.holding.Holding.{Holding}
use Rattle.grants.specs.declared.values.Grant.{Grant}
use Rattle.key_handle.specs.Stamps.{Stamps, since}
use Rattle.slicelet.specs.declared.heard.HeardGrant.{HeardGrant}
use Rattle.slicelet.specs.declared.heard.HeardGrants.{HeardGrants}
use Rattle.slicelet.specs.Stamping.{stamps_where}
use Rattle.slicelet.specs.States.{SliceletState}

-- the lease of a kind, and a holding with another one
abbrev pub lease_of_kind : Holding → Kind → Option Lease
lease_of_kind holding Guard = holding.guard
lease_of_kind holding Bridge = holding.bridge

abbrev pub with_lease : Holding → Kind → Option Lease → Holding
with_lease holding Guard lease = record holding { guard = lease }
with_lease holding Bridge lease = record holding { bridge = lease }

-- the last grant heard of a kind, and grants with another one
abbrev pub heard_of_kind : HeardGrants → Kind → Option HeardGrant
heard_of_kind heard Guard = heard.guard
heard_of_kind heard Bridge = heard.bridge

abbrev pub with_heard : HeardGrants → Kind → HeardGrant → HeardGrants
with_heard heard Guard grant = record heard { guard = Some grant }
with_heard heard Bridge grant = record heard { bridge = Some grant }

-- the number of the last grant heard, if there is one
abbrev pub number_in : Option HeardGrant → Option ℕ
number_in heard = option_map (λ grant. grant.number) heard

abbrev pub number_or_0 : Option HeardGrant → ℕ
number_or_0 None = 0
number_or_0 (Some grant) = grant.number

abbrev pub table_ends_or_0 : Option HeardGrant → ℕ
table_ends_or_0 None = 0
table_ends_or_0 (Some grant) = grant.table_ends

-- the grant of a held lease: it is the last one heard
abbrev pub granted_as : ℕ → ℕ → Option HeardGrant → Lease → Grant
granted_as task life heard lease = record { number = number_or_0 heard; task = task; life = life; lease = lease; table_ends = table_ends_or_0 heard }

-- the leases of a state
abbrev pub leases_of : SliceletState → Holding
leases_of s = record {
  up = s.up;
  last = s.last;
  guard = option_map (λ grant. grant.lease) s.guard;
  bridge = option_map (λ grant. grant.lease) s.bridge;
}

-- the stamps, where there are any
abbrev pub stamps_in : Option Stamps → Stamps
stamps_in None = []
stamps_in (Some stamps) = stamps

-- the state that a slicelet stands for
abbrev pub state_of : ℕ → ℕ → ℕ → ℕ → Holding → HeardGrants → Stamps → SliceletState
state_of task count life resumed holding heard stamps = record {
  task = task;
  count = count;
  life = life;
  resumed = resumed;
  up = holding.up;
  last = holding.last;
  guard = option_map (granted_as task life heard.guard) holding.guard;
  bridge = option_map (granted_as task life heard.bridge) holding.bridge;
  guard_number = number_in heard.guard;
  bridge_number = number_in heard.bridge;
  stamps = stamps_where (since stamps);
}
