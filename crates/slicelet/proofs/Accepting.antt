-- What holds where a call is accepted: none of its refusals does.
use Rattle.std.proofs.Common.{◌≡◌, ℕ, ◌+◌, ◌^◌, ◌<◌, ◌≤◌, true, false, refl, arith}
use Rattle.std.proofs.lemmas.Bool.Decides.{nat_tests}
use Rattle.std.specs.Prelude.{None, ◌==◌, Bool, not, nat_lt, nat_le, is_none}
use Rattle.machines.specs.Refusals.{first_of}
use Rattle.machines.proofs.Refused.{all_none, not_when}
use Rattle.lease_rule.specs.declared.lease.Kind.{Kind}
use Rattle.grants.specs.declared.values.Grant.{Grant}
use Rattle.slicelet.specs.declared.slicelet.TheConstants.{CALLS}
use Rattle.slicelet.specs.States.{SliceletState, held_in, greatest_in}
use Rattle.slicelet.specs.Steps.{start_checks, hear_checks, release_checks, resume_checks, old_number}

pub record IsStartAccepted (s : SliceletState) (life at : ℕ) : Type 0 where
  pub newer : s.life < life
  pub in_order : s.last ≤ at
  pub room : s.count < CALLS

pub record IsHearAccepted (s : SliceletState) (grant : Grant) (at : ℕ) : Type 0 where
  pub started : s.up ≡ true
  pub in_order : s.last ≤ at
  pub of_task : grant.task ≡ s.task
  pub of_life : grant.life ≡ s.life
  pub newer : old_number grant.number (greatest_in s grant.lease.kind) ≡ None
  pub live : at < grant.lease.ends
  pub room : s.count < CALLS

pub record IsReleaseAccepted (s : SliceletState) (kind : Kind) (at : ℕ) : Type 0 where
  pub started : s.up ≡ true
  pub in_order : s.last ≤ at
  pub is_held : is_none (held_in s kind) ≡ false
  pub room : s.count < CALLS

not_false : (b : Bool) → not b ≡ false → b ≡ true
not_false true e = cc
not_false false e = absurd (cc)

at_most : (m n : ℕ) → nat_lt n m ≡ false → m ≤ n
at_most m n e = grind (arith, nat_tests)

below : (m n : ℕ) → nat_le n m ≡ false → m < n
below m n e = grind (arith, nat_tests)

equal_numbers : (m n : ℕ) → not (m == n) ≡ false → m ≡ n
equal_numbers m n e = grind (arith, nat_tests)

pub start_accepted : (s : SliceletState) (life at : ℕ) → first_of (start_checks s life at) ≡ None → IsStartAccepted s life at
start_accepted s life at e =
    let none = all_none (start_checks s life at) e in
    record {
      newer = below _ _ (not_when _ _ none.0);
      in_order = at_most _ _ (not_when _ _ none.1.0);
      room = below _ _ (not_when _ _ none.1.1.0);
    }

pub hear_accepted : (s : SliceletState) (grant : Grant) (at : ℕ) → first_of (hear_checks s grant at) ≡ None → IsHearAccepted s grant at
hear_accepted s grant at e =
    let none = all_none (hear_checks s grant at) e in
    let later = none.1.1.1.1 in
    record {
      started = not_false _ (not_when _ _ none.0);
      in_order = at_most _ _ (not_when _ _ none.1.0);
      of_task = equal_numbers _ _ (not_when _ _ none.1.1.0);
      of_life = equal_numbers _ _ (not_when _ _ none.1.1.1.0);
      newer = later.0;
      live = below _ _ (not_when _ _ later.1.0);
      room = below _ _ (not_when _ _ later.1.1.0);
    }

pub release_accepted : (s : SliceletState) (kind : Kind) (at : ℕ) → first_of (release_checks s kind at) ≡ None → IsReleaseAccepted s kind at
release_accepted s kind at e =
    let none = all_none (release_checks s kind at) e in
    record {
      started = not_false _ (not_when _ _ none.0);
      in_order = at_most _ _ (not_when _ _ none.1.0);
      is_held = not_when _ _ none.1.1.0;
      room = below _ _ (not_when _ _ none.1.1.1.0);
    }

pub resume_accepted : (s : SliceletState) (life : ℕ) → first_of (resume_checks s life) ≡ None → s.life ≤ life
resume_accepted s life e = at_most _ _ (not_when _ _ (all_none (resume_checks s life) e).0)

pub resume_allowed : (s : SliceletState) (life : ℕ) → s.life ≤ life → first_of (resume_checks s life) ≡ None
resume_allowed s life l = let none : nat_lt life s.life ≡ false = grind (arith, nat_tests) in rw none refl

-- one call more is counted in 64 bits
pub hear_counts : (s : SliceletState) (grant : Grant) (at : ℕ) → first_of (hear_checks s grant at) ≡ None → s.count + 1 < 2 ^ 64
hear_counts s grant at e = let room = (hear_accepted s grant at e).room in omega (arith, room)

pub release_counts : (s : SliceletState) (kind : Kind) (at : ℕ) → first_of (release_checks s kind at) ≡ None → s.count + 1 < 2 ^ 64
release_counts s kind at e = let room = (release_accepted s kind at e).room in omega (arith, room)
