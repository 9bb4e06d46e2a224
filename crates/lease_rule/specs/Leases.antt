-- Leases, and what is seen of them from one key.
use Rattle.std.specs.Prelude.{ℕ, Bool, true, false, nat_lt}
use Rattle.lease_rule.specs.declared.lease.Kind.{Kind}
use Rattle.lease_rule.specs.declared.lease.Kind.TheVariants.{Guard, Bridge}
use Rattle.lease_rule.specs.declared.lease.Lease.{Lease}
use Rattle.slice_ranges.specs.Sets.{has}

-- whether two kinds are the same
abbrev pub same_kind : Kind → Kind → Bool
same_kind Guard Guard = true
same_kind Guard Bridge = false
same_kind Bridge Guard = false
same_kind Bridge Bridge = true

-- a lease is live at a reading when it ends above it
abbrev pub is_live : Lease → ℕ → Bool
is_live lease at = nat_lt at lease.ends

-- a lease as it is seen from one key: whether it covers the key, and nothing else of its keys
pub record SeenLease : Type 0 where
  pub generation : ℕ
  pub ends : ℕ
  pub covers : Bool

-- a lease covers the members of its ranges
abbrev pub seen_from : ℕ → Lease → SeenLease
seen_from key lease = record { generation = lease.generation; ends = lease.ends; covers = has lease.ranges key }
