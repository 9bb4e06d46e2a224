-- The leases of a state are seen from a key as the rule sees them.
use Rattle.std.proofs.Common.{◌≡◌, ◌∙◌, ℕ, ◌≤◌, true, refl, sym, ap}
use Rattle.std.specs.Prelude.{Option, Some, None, option_map}
use Rattle.lease_rule.specs.Leases.{seen_from}
use Rattle.lease_rule.specs.Rule.{SeenHolding, holding_seen_from, rule, is_allowed}
use Rattle.lease_rule.proofs.Permitting.{permitted_live}
use Rattle.grants.specs.declared.values.Grant.{Grant}
use Rattle.slicelet.specs.Rules.{seen_by, covers_key}
use Rattle.slicelet.specs.States.{SliceletState, holding_in, permits}
use Rattle.slicelet.specs.internals.State.{leases_of}
use Rattle.slicelet.specs.internals.Stamping.{serves}

seen_lease : (key : ℕ) (held : Option Grant) → option_map (seen_from key) (option_map (λ (grant : Grant). grant.lease) held) ≡ option_map (seen_by (covers_key key)) held
seen_lease key None = refl
seen_lease key (Some grant) = refl

pub seen_leases : (key : ℕ) (s : SliceletState) → holding_seen_from (leases_of s) key ≡ holding_in (covers_key key) s
seen_leases key s = rw (seen_lease key s.guard, seen_lease key s.bridge) refl

-- a key is permitted where a lease serves it, at the last reading or later
pub permits_served : (s : SliceletState) (key at : ℕ) → s.up ≡ true → s.last ≤ at → permits s key at ≡ serves (leases_of s) key at
permits_served s key at started l =
    ap (λ (seen : SeenHolding). is_allowed (rule seen at)) (sym (seen_leases key s)) ∙ permitted_live (holding_seen_from (leases_of s) key) at started l
