-- The end of one lease, and then that of the other: up to there a task may serve a key.
use Rattle.std.proofs.Common.{◌≡◌, ℕ, ◌≤◌, Bool, true, false, refl, ◌∙◌, arith}
use Rattle.std.proofs.lemmas.Bool.Decides.{nat_tests}
use Rattle.std.specs.Prelude.{Option, Some, None, ◌&&◌, ◌||◌, nat_lt, if◌then◌else◌}
use Rattle.lease_rule.specs.Leases.{SeenLease}
use Rattle.lease_rule.specs.Rule.{SeenHolding, is_serving, rule, is_allowed}
use Rattle.lease_rule.proofs.Permitting.{permitted_down, permitted_live}
use Rattle.stretches.specs.internals.Ends.{end_by, allowed_to}

-- up to where a lease reaches that may not be there
reach : Option SeenLease → ℕ
reach None = 0
reach (Some lease) = if lease.covers then lease.ends else 0

serving_reach : (at : ℕ) (lease : Option SeenLease) → is_serving at lease ≡ nat_lt at (reach lease)
unfolding reach
serving_reach at None = grind (arith, nat_tests)
serving_reach at (Some lease) = by_cover lease.covers
  where
    by_cover : (covers : Bool) → (nat_lt at lease.ends && covers) ≡ nat_lt at (if covers then lease.ends else 0)
    by_cover true = by_test (nat_lt at lease.ends)
      where
        by_test : (b : Bool) → (b && true) ≡ b
        by_test true = refl
        by_test false = refl
    by_cover false = grind (arith, nat_tests)

end_by_reach : (at : ℕ) (lease : Option SeenLease) (otherwise : ℕ) → end_by at lease otherwise ≡ (if nat_lt at (reach lease) then reach lease else otherwise)
unfolding reach
end_by_reach at None otherwise = grind (arith, nat_tests)
end_by_reach at (Some lease) otherwise = by_cover lease.covers
  where
    by_test : (b : Bool) → (if b && true then lease.ends else otherwise) ≡ (if b then lease.ends else otherwise)
    by_test true = refl
    by_test false = refl

    never : (b : Bool) → (if b && false then lease.ends else otherwise) ≡ otherwise
    never true = refl
    never false = refl

    by_cover : (covers : Bool) → (if nat_lt at lease.ends && covers then lease.ends else otherwise)
        ≡ (if nat_lt at (if covers then lease.ends else 0) then (if covers then lease.ends else 0) else otherwise)
    by_cover true = by_test (nat_lt at lease.ends)
    by_cover false = never (nat_lt at lease.ends) ∙ grind (arith, nat_tests)

-- the farther of two ends, by the first and then by the other
to_end : ℕ → ℕ → ℕ → ℕ
to_end guard bridge at = if nat_lt at guard || nat_lt at bridge then (if nat_lt at guard then guard else (if nat_lt at bridge then bridge else at)) else at

twice : (guard bridge from at : ℕ) → from ≤ at → nat_lt at (to_end guard bridge (to_end guard bridge from)) ≡ (nat_lt at guard || nat_lt at bridge)
unfolding to_end
twice guard bridge from at l = grind (arith, nat_tests)

allowed_to_is : (h : SeenHolding) (at : ℕ) → h.up ≡ true → h.last ≤ at → allowed_to h at ≡ to_end (reach h.guard) (reach h.bridge) at
unfolding to_end
allowed_to_is h at up l = rw (permitted_live h at up l, serving_reach, serving_reach, end_by_reach, end_by_reach) refl

to_end_up : (guard bridge at : ℕ) → at ≤ to_end guard bridge at
unfolding to_end
to_end_up guard bridge at = grind (arith, nat_tests)

-- a task that was started may serve up to there, and no farther
by_leases : (h : SeenHolding) (from at : ℕ) → h.up ≡ true → h.last ≤ from → from ≤ at → nat_lt at (allowed_to h (allowed_to h from)) ≡ is_allowed (rule h at)
by_leases h from at up l m =
    let first = allowed_to_is h from up l in
    let g = reach h.guard in
    let b = reach h.bridge in
    let farther : h.last ≤ to_end g b from = omega (arith, to_end_up g b from) in
    let second = allowed_to_is h (to_end g b from) up farther in
    let here : is_allowed (rule h at) ≡ (nat_lt at g || nat_lt at b) = rw (permitted_live h at up (omega arith), serving_reach, serving_reach) refl in
    rw (first, second, here) (twice g b from at m)

pub allowed_twice : (h : SeenHolding) (from at : ℕ) → h.last ≤ from → from ≤ at → nat_lt at (allowed_to h (allowed_to h from)) ≡ is_allowed (rule h at)
allowed_twice h from at l m = by_up h.up refl
  where
    by_up : (up : Bool) → h.up ≡ up → nat_lt at (allowed_to h (allowed_to h from)) ≡ is_allowed (rule h at)
    by_up true e = by_leases h from at e l m
    by_up false e = rw (permitted_down h from e, permitted_down h from e, permitted_down h at e) (grind (arith, nat_tests))
