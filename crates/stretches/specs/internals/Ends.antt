-- Up to when a task may serve a key, by the leases that it holds.
use Rattle.std.specs.Prelude.{ℕ, Option, Some, None, if◌then◌else◌}
use Rattle.lease_rule.specs.Leases.{SeenLease}
use Rattle.lease_rule.specs.Rule.{SeenHolding, is_serving, rule, is_allowed}

-- the end of a lease that allows the key at a reading, and else the reading
abbrev pub end_by : ℕ → Option SeenLease → ℕ → ℕ
end_by at None otherwise = otherwise
end_by at (Some lease) otherwise = if is_serving at (Some lease) then lease.ends else otherwise

-- the end of the lease by which the rule allows the key at a reading, and else the reading
abbrev pub allowed_to : SeenHolding → ℕ → ℕ
allowed_to h at = if is_allowed (rule h at) then end_by at h.guard (end_by at h.bridge at) else at
