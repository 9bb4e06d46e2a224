-- The first of the writes that were passed, write by write.
use Rattle.std.proofs.Common.{◌≡◌, ℕ, ◌+◌, ◌<◌, ◌≤◌, Bool, true, false, List, take, length, refl, sym, ◌∙◌, ap, subst, arith, eqb-true}
use Rattle.std.specs.Prelude.{◌==◌, slice_get, Option, Some, None}
use Rattle.std.specs.List.{Contains}
use Rattle.std.proofs.lemmas.Bool.Decides.{nat_tests}
use Rattle.store_writes.specs.declared.taken.Taken.{Taken}
use Rattle.store_writes.specs.declared.late.Late.{Late}
use Rattle.store_writes.specs.internals.Firsts.{IsAbove, IsFound, IsGreaterBefore, IsPassed}

module _ (taken : List Taken) (place : ℕ) (write : Taken) (here : slice_get taken place ≡ Some write) where
  -- what is passed here is this write
  one_here : (other : ℕ) (one another : Taken) → other ≡ place → IsPassed taken other one another → one ≡ write
  one_here other one another same p =
      let both : Some one ≡ Some write = sym p.here ∙ ap (slice_get taken) same ∙ here in
      cc

  before_here : (other : ℕ) (one another : Taken) → other ≡ place → IsPassed taken other one another → Contains (take place taken) another
  before_here other one another same p = subst (λ (k : ℕ). Contains (take k taken) another) same p.before

  -- none is passed here
  none_here : IsGreaterBefore (take place taken) write None → (other : ℕ) (one another : Taken) → other ≡ place → IsPassed taken other one another → ⊥
  none_here none other one another same p =
      let is = one_here other one another same p in
      let above = subst (λ (w : Taken). IsAbove w another) is p.above in
      none another (before_here other one another same p) above

  -- which one it is, from the next place
  by_place : {P : Type 0} (other : ℕ) → other < place + 1 → (other ≡ place → P) → (other < place → P) → P
  by_place {P} other l at below = by_test (other == place) refl
    where
      by_test : (b : Bool) → b ≡ (other == place) → P
      by_test true e = at (eqb-true other place (sym e))
      by_test false e = below (grind (arith, nat_tests))

  pub found_same : (first : Option Late) → IsFound taken place first → IsGreaterBefore (take place taken) write None → IsFound taken (place + 1) first
  found_same None found none = λ other one another l p.
      by_place other l (λ same. none_here none other one another same p) (λ below. found other one another below p)
  found_same (Some late) found none =
      record {
        at = found.at;
        before = (let l = found.before in omega (arith, l));
        write = found.write;
        by = found.by;
        passed = found.passed;
        named = found.named;
        least = λ other one another l p.
            by_place other l (λ same. absurd (none_here none other one another same p)) (λ below. found.least other one another below p);
      }

  module _ (by : Taken) (greater : IsGreaterBefore (take place taken) write (Some by)) where
    passed_here : IsPassed taken place write by
    passed_here = record { here = here; before = greater.0; above = greater.1 }

    index_here : (other : ℕ) (one another : Taken) → other ≡ place → IsPassed taken other one another → write.index ≡ one.index
    index_here other one another same p = ap (λ (w : Taken). w.index) (sym (one_here other one another same p))

    -- it is the first one
    pub found_first : IsFound taken place None → IsFound taken (place + 1) (Some record { index = write.index; by = by.index })
    found_first found =
        record {
          at = place;
          before = omega (arith);
          write = write;
          by = by;
          passed = passed_here;
          named = refl;
          least = λ other one another l p.
              by_place other l (λ same. (let e = index_here other one another same p in omega (arith, e))) (λ below. absurd (found other one another below p));
        }

    -- another one comes first
    pub found_later : (late : Late) → IsFound taken place (Some late) → late.index ≤ write.index → IsFound taken (place + 1) (Some late)
    found_later late found order =
        record {
          at = found.at;
          before = (let l = found.before in omega (arith, l));
          write = found.write;
          by = found.by;
          passed = found.passed;
          named = found.named;
          least = λ other one another l p.
              by_place other l (λ same. (let e = index_here other one another same p in omega (arith, e, order))) (λ below. found.least other one another below p);
        }

    -- it comes before another one
    pub found_earlier : (late : Late) → IsFound taken place (Some late) → write.index < late.index → IsFound taken (place + 1) (Some record { index = write.index; by = by.index })
    found_earlier late found order =
        record {
          at = place;
          before = omega (arith);
          write = write;
          by = by;
          passed = passed_here;
          named = refl;
          least = λ other one another l p.
              by_place other l (λ same. (let e = index_here other one another same p in omega (arith, e)))
              (λ below. (let e = found.least other one another below p in omega (arith, e, order)));
        }

-- after the last of these writes
pub found_all : (taken : List Taken) (place : ℕ) (first : Option Late) → length taken ≤ place → place ≤ length taken → IsFound taken place first
    → IsFound taken (length taken) first
found_all taken place first low high found = subst (λ (n : ℕ). IsFound taken n first) (let e : place ≡ length taken = omega (arith, low, high) in e) found
