-- The written rule over what a slicelet heard.
use Rattle.std.specs.Prelude.{ℕ, Bool, List, option_map}
use Rattle.lease_rule.specs.declared.lease.Kind.TheVariants.{Guard, Bridge}
use Rattle.lease_rule.specs.declared.answer.Verdict.{Verdict}
use Rattle.lease_rule.specs.Leases.{SeenLease}
use Rattle.lease_rule.specs.Rule.{SeenHolding, rule}
pub use Rattle.lease_rule.specs.Rule.{is_allowed}
use Rattle.slice_ranges.specs.Sets.{has}
use Rattle.grants.specs.declared.values.Grant.{Grant}
use Rattle.grants.specs.declared.slicelet_call.SliceletCall.{SliceletCall}
use Rattle.slicelet.specs.Calls.{is_started, last_reading, held_grant}

-- a granted lease as it is seen by whoever knows whether it covers a key
abbrev pub seen_by : (Grant → Bool) → Grant → SeenLease
seen_by covers grant = record { generation = grant.lease.generation; ends = grant.lease.ends; covers = covers grant }

-- what a task holds after these calls
abbrev pub holding_after : (Grant → Bool) → List SliceletCall → SeenHolding
holding_after covers h = record {
  up = is_started h;
  last = last_reading h;
  guard = option_map (seen_by covers) (held_grant Guard h);
  bridge = option_map (seen_by covers) (held_grant Bridge h);
}

-- the written rule over these calls, for what a lease covers
abbrev pub rule_after : (Grant → Bool) → List SliceletCall → ℕ → Verdict
rule_after covers h at = rule (holding_after covers h) at

-- to a slicelet, a lease covers the members of its ranges
abbrev pub covers_key : ℕ → Grant → Bool
covers_key key grant = has grant.lease.ranges key

-- a key is permitted after these calls at a reading
abbrev pub is_permitted : (Grant → Bool) → List SliceletCall → ℕ → Bool
is_permitted covers h at = is_allowed (rule_after covers h at)
