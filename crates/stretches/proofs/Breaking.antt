-- When handles break after one more call.
use Rattle.std.proofs.Common.{◌≡◌, ℕ, ◌+◌, ◌<◌, ◌≤◌, Bool, true, false, List, ◌∷◌, refl, sym, ◌∙◌, ap, subst, arith}
use Rattle.std.proofs.lemmas.Bool.Decides.{nat_tests}
use Rattle.std.specs.Prelude.{max, nat_lt}
use Rattle.key_handle.specs.declared.handle.KeyHandle.{KeyHandle}
use Rattle.grants.specs.declared.slicelet_call.SliceletCall.{SliceletCall}
use Rattle.grants.specs.declared.slicelet_call.SliceletCall.TheVariants.{Resume}
use Rattle.slicelet.specs.Calls.{last_reading}
use Rattle.slicelet.specs.States.{state_after}
use Rattle.stretches.specs.declared.breaks.GivenHandle.{GivenHandle}
use Rattle.stretches.specs.Stretches.{calls_through, calls_up_to, is_over, processes}
use Rattle.stretches.specs.Breaks.{IsBreakOf, IsFirstWithout, is_found_at, is_found_in}
use Rattle.stretches.proofs.Keeping.{IsLater, through_last, up_to_last}

module _ (task : ℕ) (handle : KeyHandle) where
  -- from the last reading on, all calls count
  pub found_now : (calls : List SliceletCall) (at : ℕ) → last_reading calls ≤ at → is_found_at task calls (processes calls) handle at ≡ is_found_in (state_after task calls) handle at
  found_now calls at l = ap (λ (h : List SliceletCall). is_found_in (state_after task h) handle at) (ap (calls_up_to at) (through_last calls) ∙ up_to_last calls at l)

  pub first_now : (calls : List SliceletCall) (from breaks : ℕ) → last_reading calls ≤ from → IsFirstWithout (is_found_in (state_after task calls) handle) from breaks
      → IsFirstWithout (is_found_at task calls (processes calls) handle) from breaks
  first_now calls from breaks l first = record {
    late = first.late;
    found = λ at m n. found_now calls at (omega (arith, l, m)) ∙ first.found at m n;
    broken = found_now calls breaks (omega (arith, l, first.late)) ∙ first.broken;
  }

  -- what was over stays
  found_earlier : (before after : List SliceletCall) → IsLater before after → (process at : ℕ) → is_over after process at ≡ true
      → is_found_at task after process handle at ≡ is_found_at task before process handle at
  found_earlier before after later process at over = ap (λ (h : List SliceletCall). is_found_in (state_after task h) handle at) (later.earlier process at over)

  over_now : (after : List SliceletCall) (at : ℕ) → at < last_reading after → is_over after (processes after) at ≡ true
  over_now after at l = grind (arith, nat_tests, l)

  over_before : (after : List SliceletCall) (process at : ℕ) → process < processes after → is_over after process at ≡ true
  over_before after process at l = let earlier : nat_lt process (processes after) ≡ true = grind (arith, nat_tests) in rw earlier refl

  -- a process that is over
  pub first_over : (before after : List SliceletCall) → IsLater before after → (process from breaks : ℕ) → process < processes after
      → IsFirstWithout (is_found_at task before process handle) from breaks → IsFirstWithout (is_found_at task after process handle) from breaks
  first_over before after later process from breaks l first = record {
    late = first.late;
    found = λ at m n. found_earlier before after later process at (over_before after process at l) ∙ first.found at m n;
    broken = found_earlier before after later process breaks (over_before after process breaks l) ∙ first.broken;
  }

  -- a handle that broke before the call
  pub first_early : (before after : List SliceletCall) → IsLater before after → (from breaks : ℕ) → breaks < last_reading after
      → IsFirstWithout (is_found_at task before (processes after) handle) from breaks → IsFirstWithout (is_found_at task after (processes after) handle) from breaks
  first_early before after later from breaks l first = record {
    late = first.late;
    found = λ at m n. found_earlier before after later (processes after) at (over_now after at (omega (arith, l, n))) ∙ first.found at m n;
    broken = found_earlier before after later (processes after) breaks (over_now after breaks l) ∙ first.broken;
  }

  -- one that did not
  pub first_late : (before after : List SliceletCall) → IsLater before after → (from breaks new : ℕ) → last_reading after ≤ breaks
      → IsFirstWithout (is_found_at task before (processes after) handle) from breaks
      → IsFirstWithout (is_found_in (state_after task after) handle) (max (last_reading after) from) new
      → IsFirstWithout (is_found_at task after (processes after) handle) from new
  first_late before after later from breaks new l first next =
      let now = last_reading after in
      let near : now ≤ max now from = grind arith in
      let high : from ≤ max now from = grind arith in
      let own = first_now after (max now from) new near next in
      record {
        late = omega (arith, high, next.late);
        found = λ at m n. by_time at m n (nat_lt at now) refl;
        broken = own.broken;
      }
    where
      by_time : (at : ℕ) → from ≤ at → at < new → (early : Bool) → nat_lt at (last_reading after) ≡ early → is_found_at task after (processes after) handle at ≡ true
      by_time at m n true e =
          let soon : at < last_reading after = grind (arith, nat_tests) in
          found_earlier before after later (processes after) at (over_now after at soon) ∙ first.found at m (omega (arith, soon, l))
      by_time at m n false e =
          let not_soon : last_reading after ≤ at = grind (arith, nat_tests) in
          let both : max (last_reading after) from ≤ at = grind (arith, not_soon, m) in
          (first_now after (max (last_reading after) from) new (grind arith) next).found at both n

-- a process that began changes nothing of earlier ones
pub begun : (task : ℕ) (calls : List SliceletCall) (life : ℕ) (given : GivenHandle) → IsBreakOf task calls given → IsBreakOf task (Resume life ∷ calls) given
begun task calls life given b =
    let earlier : nat_lt given.process (processes calls + 1) ≡ true = (let p = b.process in grind (arith, nat_tests, p)) in
    let same : calls_through given.process (Resume life ∷ calls) ≡ calls_through given.process calls = rw earlier refl in
    record {
      process = (let p = b.process in omega (arith, p));
      first = subst (λ (h : List SliceletCall). IsFirstWithout (λ (at : ℕ). is_found_in (state_after task (calls_up_to at h)) given.handle at) given.from given.breaks) (sym same) b.first;
    }

-- of handles, the first ones are as they are after the call
pub record IsSeen (task : ℕ) (before after : List SliceletCall) (many number : ℕ) (given : GivenHandle) : Type 0 where
  pub seen : number ≤ many → IsBreakOf task after given
  pub not_yet : many < number → IsBreakOf task before given
