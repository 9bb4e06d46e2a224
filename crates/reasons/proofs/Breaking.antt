-- Handles on a key, by how many calls there were when they were taken.
use Rattle.std.proofs.Common.{◌≡◌, ◌∙◌, ℕ, ◌≤◌, Bool, true, false, not, refl, sym, ap, arith, true≢false}
use Rattle.std.specs.Prelude.{◌==◌, ◌&&◌, ◌||◌, nat_lt, nat_le, Option, Some, None, Result, Ok, Err, if◌then◌else◌}
use Rattle.std.proofs.lemmas.Bool.Decides.{nat_tests}
use Rattle.key_handle.specs.declared.handle.KeyHandle.{KeyHandle}
use Rattle.grants.specs.declared.slicelet_error.Stranger.{Stranger}
use Rattle.lease_rule.specs.declared.answer.Ground.{Ground}
use Rattle.lease_rule.specs.declared.answer.Verdict.{Verdict}
use Rattle.lease_rule.specs.declared.answer.Verdict.TheVariants.{Allow, Deny}
use Rattle.slicelet.specs.Continuity.{handle_on, held_by, checked_in}
use Rattle.key_handle.specs.Handles.{is_up_to}
use Rattle.slicelet.specs.Rules.{covers_key, is_allowed}
use Rattle.slicelet.specs.States.{SliceletState, stamp_in, rule_in_state, permits}
use Rattle.reasons.specs.Breaking.{taken_after, HasNoBreakingCall}

-- what a check answers, by whether the handle is of another task or an earlier process, of a life to come, of this life, taken after more calls than there were,
-- taken after the stamp of its key, and its key permitted
abbrev pub answer : Bool → Bool → Bool → Bool → Bool → Bool → Result Bool Stranger
answer other to_come same past up may = if other || to_come || (same && past) then Err (record {}) else Ok ((same && up) && may)

earlier_answer : (other to_come same past earlier_past up earlier_up may : Bool) → (earlier_past ≡ true → past ≡ true) → (earlier_up ≡ true → up ≡ true)
    → answer other to_come same past up may ≡ Ok false → answer other to_come same earlier_past earlier_up may ≡ Ok false
earlier_answer true to_come same past earlier_past up earlier_up may p u e = absurd (cc)
earlier_answer false true same past earlier_past up earlier_up may p u e = absurd (cc)
earlier_answer false false false past earlier_past up earlier_up may p u e = refl
earlier_answer false false true true earlier_past up earlier_up may p u e = absurd (cc)
earlier_answer false false true false true up earlier_up may p u e = absurd (true≢false (sym (p refl)))
earlier_answer false false true false false up false may p u e = refl
earlier_answer false false true false false up true may p u e = sym (ap (λ (b : Bool). answer false false true false b may) (u refl)) ∙ e

true_answer : (other to_come same past up may : Bool) → answer other to_come same past up may ≡ Ok true → (past ≡ false) × (may ≡ true)
true_answer true to_come same past up may e = absurd (cc)
true_answer false true same past up may e = absurd (cc)
true_answer false false false past up may e = absurd (cc)
true_answer false false true true up may e = absurd (cc)
true_answer false false true false false may e = absurd (cc)
true_answer false false true false true false e = absurd (cc)
true_answer false false true false true true e = (refl, refl)

up_earlier : (stamp : Option ℕ) (q p : ℕ) → q ≤ p → is_up_to q stamp ≡ true → is_up_to p stamp ≡ true
up_earlier None q p l e = e
up_earlier (Some n) q p l e = let f : nat_le n q ≡ true = e in grind (arith, nat_tests)

module _ (s : SliceletState) (handle : KeyHandle) (at : ℕ) where
  -- a handle that is broken is so if it was taken earlier
  pub broken_earlier : (p q : ℕ) → q ≤ p → checked_in s (taken_after p handle) at ≡ Ok false → checked_in s (taken_after q handle) at ≡ Ok false
  broken_earlier p q l e =
      earlier_answer (not (handle.task == s.task) || nat_le handle.life s.resumed) (nat_lt s.life handle.life) (handle.life == s.life) (nat_lt s.count p) (nat_lt s.count q)
      (is_up_to p (stamp_in s handle.key)) (is_up_to q (stamp_in s handle.key)) (permits s handle.key at)
      (λ t. (let u : nat_lt s.count q ≡ true = t in grind (arith, nat_tests))) (up_earlier (stamp_in s handle.key) q p l) e

  -- one that is continuous was taken after no more calls than there were, and its key is permitted
  pub continuous_facts : (p : ℕ) → checked_in s (taken_after p handle) at ≡ Ok true → (p ≤ s.count) × (permits s handle.key at ≡ true)
  continuous_facts p e =
      let facts = true_answer (not (handle.task == s.task) || nat_le handle.life s.resumed) (nat_lt s.life handle.life) (handle.life == s.life) (nat_lt s.count p)
      (is_up_to p (stamp_in s handle.key)) (permits s handle.key at) e in
      ((let t : nat_lt s.count p ≡ false = facts.0 in grind (arith, nat_tests)), facts.1)

  -- a handle whose key is denied
  pub none_where_denied : permits s handle.key at ≡ false → HasNoBreakingCall s handle at
  none_where_denied denied call b = true≢false (sym (continuous_facts call b.continuous_after).1 ∙ denied)

  -- a handle that would be broken if it was taken now
  pub none_up_to : (now : ℕ) → s.count ≤ now → checked_in s (taken_after now handle) at ≡ Ok false → HasNoBreakingCall s handle at
  none_up_to now l broken call b =
      let facts = continuous_facts call b.continuous_after in
      absurd (let e : checked_in s (taken_after call handle) at ≡ Ok false = broken_earlier now call (let k = facts.0 in omega (arith, k, l)) broken in let f = b.continuous_after in cc)

-- a denial, told by what a `hold` answers
denied_if : (v : Verdict) (handle : KeyHandle) (why : Ground) → held_by v handle ≡ Err why → is_allowed v ≡ false
denied_if (Allow kind generation) handle why e = absurd (cc)
denied_if (Deny ground) handle why e = refl

pub denied : (s : SliceletState) (key at : ℕ) (why : Ground) → held_by (rule_in_state (covers_key key) s at) (handle_on key s) ≡ Err why → permits s key at ≡ false
denied s key at why e = denied_if (rule_in_state (covers_key key) s at) (handle_on key s) why e

held_if : (v : Verdict) (handle taken : KeyHandle) → held_by v handle ≡ Ok taken → handle ≡ taken
held_if (Allow kind generation) handle taken e = cc
held_if (Deny ground) handle taken e = absurd (cc)

-- the position of a handle that is taken now
pub taken_now : (s : SliceletState) (key at : ℕ) (taken : KeyHandle) → held_by (rule_in_state (covers_key key) s at) (handle_on key s) ≡ Ok taken → s.count ≡ taken.position
taken_now s key at taken e = ap (λ (h : KeyHandle). h.position) (held_if (rule_in_state (covers_key key) s at) (handle_on key s) taken e)
