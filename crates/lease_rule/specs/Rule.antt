-- The written rule.
use Rattle.std.specs.Prelude.{ℕ, Bool, true, false, not, ◌&&◌, ◌||◌, nat_lt, max, List, [], ◌∷◌, Option, Some, None, unwrap_or, option_map}
use Rattle.lease_rule.specs.declared.lease.Kind.{Kind}
use Rattle.lease_rule.specs.declared.lease.Kind.TheVariants.{Guard, Bridge}
use Rattle.lease_rule.specs.declared.holding.Holding.{Holding}
use Rattle.lease_rule.specs.declared.answer.Ground.TheVariants.{Down, ClockBack, Ended, NotOwned, NoLease}
use Rattle.lease_rule.specs.declared.answer.Verdict.{Verdict}
use Rattle.lease_rule.specs.declared.answer.Verdict.TheVariants.{Allow, Deny}
use Rattle.machines.specs.Refusals.{when, first_of}
use Rattle.lease_rule.specs.Leases.{SeenLease, seen_from}

-- a holding as it is seen from one key
pub record SeenHolding : Type 0 where
  pub up : Bool
  pub last : ℕ
  pub guard : Option SeenLease
  pub bridge : Option SeenLease

abbrev pub holding_seen_from : Holding → ℕ → SeenHolding
holding_seen_from holding key = record {
  up = holding.up;
  last = holding.last;
  guard = option_map (seen_from key) holding.guard;
  bridge = option_map (seen_from key) holding.bridge;
}

-- the generation of a lease that is held, is live at the reading and covers the key
abbrev pub serving_generation : ℕ → Option SeenLease → Option ℕ
serving_generation at None = None
serving_generation at (Some lease) = when (nat_lt at lease.ends && lease.covers) lease.generation

-- a lease is held, is live at the reading and covers the key
abbrev pub is_serving : ℕ → Option SeenLease → Bool
is_serving at None = false
is_serving at (Some lease) = nat_lt at lease.ends && lease.covers

-- such a lease allows the key
abbrev pub allowed_by : Kind → ℕ → Option SeenLease → Option Verdict
allowed_by kind at held = option_map (λ generation. Allow kind generation) (serving_generation at held)

-- a lease that is held covers the key
abbrev pub is_covered : Option SeenLease → Bool
is_covered None = false
is_covered (Some lease) = lease.covers

-- the generation of a lease that is held and covers the key, whether or not it has ended
abbrev pub covering_generation : Option SeenLease → Option ℕ
covering_generation None = None
covering_generation (Some lease) = when lease.covers lease.generation

-- the generation of a lease that is held and live at the reading
abbrev pub live_generation : ℕ → Option SeenLease → Option ℕ
live_generation at None = None
live_generation at (Some lease) = when (nat_lt at lease.ends) lease.generation

-- the greater of two, where there are two
abbrev pub greatest : Option ℕ → Option ℕ → Option ℕ
greatest None second = second
greatest (Some first) None = Some first
greatest (Some first) (Some second) = Some (max first second)

-- the greatest generation of the held leases that cover the key, live or ended
abbrev pub newest_covering : SeenHolding → Option ℕ
newest_covering h = greatest (covering_generation h.guard) (covering_generation h.bridge)

-- the cases of the rule in their order
abbrev pub rule_cases : SeenHolding → ℕ → List (Option Verdict)
rule_cases h at =
    when (not h.up) (Deny Down) ∷
    when (nat_lt at h.last) (Deny ClockBack) ∷
    allowed_by Guard at h.guard ∷
    allowed_by Bridge at h.bridge ∷
    when (is_covered h.guard || is_covered h.bridge) (Deny Ended) ∷
    option_map (λ generation. Deny (NotOwned generation)) (greatest (live_generation at h.guard) (live_generation at h.bridge)) ∷ []

-- the first case that holds, and else there is no lease
abbrev pub rule : SeenHolding → ℕ → Verdict
rule h at = unwrap_or (first_of (rule_cases h at)) (Deny NoLease)

-- a verdict allows the key
abbrev pub is_allowed : Verdict → Bool
is_allowed (Allow kind generation) = true
is_allowed (Deny why) = false
