-- Whether the keys of a set are in another one, told by the first range of each.
use Rattle.std.proofs.Common.{◌≡◌, ℕ, ◌+◌, ◌<◌, ◌≤◌, Bool, true, false, not, List, [], ◌∷◌, refl, sym, ◌∙◌, arith}
use Rattle.std.specs.Prelude.{◌↔◌, ◌⊎◌, if◌then◌else◌, nat_lt}
use Rattle.std.proofs.lemmas.Bool.{lt-ltb, le-ltb}
use Rattle.std.proofs.lemmas.Bool.Decides.{nat_tests}
use Rattle.slice_ranges.specs.declared.key.TheConstants.{KEYS}
use Rattle.slice_ranges.specs.internals.Pairs.{HasNoPair}
use Rattle.slice_ranges.specs.Sets.{inside_after, has, Rises, IsRanges, IsSubset}
use Rattle.slice_ranges.proofs.Boundaries.{inside_below, rises_starts, rises_bounds}

-- the boundaries of some keys from `low` on, up to 2^63
pub record AreBoundaries (low : ℕ) (bs : List ℕ) : Type 0 where
  pub rises : Rises low bs (KEYS + 1)
  pub ends : has bs KEYS ≡ false

pub all_boundaries : (bs : List ℕ) → IsRanges bs → AreBoundaries 0 bs
all_boundaries bs r = record { rises = r.rises; ends = r.ends }

-- a key of the set is not below its first boundary
above : (low : ℕ) (bs : List ℕ) (key : ℕ) → Rises low bs (KEYS + 1) → has bs key ≡ true → low ≤ key
above low bs key r h = by_test (nat_lt key low) refl
  where
    by_test : (b : Bool) → nat_lt key low ≡ b → low ≤ key
    by_test true e = absurd (let l : key < low = grind (arith, nat_tests) in let n = inside_below false bs low key (rises_starts low bs (KEYS + 1) r) l in cc)
    by_test false e = grind (arith, nat_tests)

-- a key in the first range, and past it
in_first : (start end key : ℕ) (bs : List ℕ) → start ≤ key → key < end → has (start ∷ end ∷ bs) key ≡ true
in_first start end key bs l h = rw (le-ltb key start l, lt-ltb key end h) refl

past_first : (start end key : ℕ) (bs : List ℕ) → start ≤ key → end ≤ key → has (start ∷ end ∷ bs) key ≡ has bs key
past_first start end key bs l h = rw (le-ltb key start l, le-ltb key end h) refl

-- there is no first boundary alone
pub no_single : (low b : ℕ) → AreBoundaries low (b ∷ []) → ⊥
no_single low b r = let l : b ≤ KEYS = omega (arith, r.rises.1) in let h : has (b ∷ []) KEYS ≡ true = rw (le-ltb KEYS b l) refl in let e = r.ends in cc

-- what is left of boundaries past the first range
pub boundaries_left : (low start end : ℕ) (bs : List ℕ) → AreBoundaries low (start ∷ end ∷ bs) → AreBoundaries (end + 1) bs
boundaries_left low start end bs r =
    let l = rises_bounds (end + 1) bs (KEYS + 1) r.rises.1.1 in
    let e : end ≤ KEYS = omega (arith, l) in
    let s : start ≤ KEYS = omega (arith, l, r.rises.1.0) in
    record { rises = r.rises.1.1; ends = sym (past_first start end KEYS bs s e) ∙ r.ends }

-- a range of the other set that ends before the first one of the set says nothing
pub past_other : (p q start low high : ℕ) (bs cs : List ℕ) → AreBoundaries p (start ∷ bs) → AreBoundaries q (low ∷ high ∷ cs) → high ≤ start
    → IsSubset (start ∷ bs) (low ∷ high ∷ cs) ↔ IsSubset (start ∷ bs) cs
past_other p q start low high bs cs r s l = (
  (λ h key k. let g = above start (start ∷ bs) key (from_start) k in sym (past_first low high key cs (omega (arith, g, rising)) (omega (arith, g))) ∙ h key k),
  (λ h key k. let g = above start (start ∷ bs) key (from_start) k in past_first low high key cs (omega (arith, g, rising)) (omega (arith, g)) ∙ h key k),
)
  where
    rising : low + 1 ≤ high
    rising = s.rises.1.0

    from_start : Rises start (start ∷ bs) (KEYS + 1)
    from_start = (omega arith, r.rises.1)

-- the first range of the set lies in that of the other
pub past_range : (p start end low high : ℕ) (bs cs : List ℕ) → AreBoundaries p (start ∷ end ∷ bs) → low ≤ start → end ≤ high
    → IsSubset (start ∷ end ∷ bs) (low ∷ high ∷ cs) ↔ IsSubset bs (low ∷ high ∷ cs)
past_range p start end low high bs cs r l h = (left, right)
  where
    left : IsSubset (start ∷ end ∷ bs) (low ∷ high ∷ cs) → IsSubset bs (low ∷ high ∷ cs)
    left f key k =
        let g = above (end + 1) bs key r.rises.1.1 k in
        f key (past_first start end key bs (omega (arith, g, r.rises.1.0)) (omega (arith, g)) ∙ k)

    right : IsSubset bs (low ∷ high ∷ cs) → IsSubset (start ∷ end ∷ bs) (low ∷ high ∷ cs)
    right f key k = by_tests (nat_lt key start) (nat_lt key end) refl refl k
      where
        by_tests : (a b : Bool) → nat_lt key start ≡ a → nat_lt key end ≡ b → (if a then false else if b then true else has bs key) ≡ true → has (low ∷ high ∷ cs) key ≡ true
        by_tests true b s e k = absurd (cc)
        by_tests false true s e k =
            let i : start ≤ key = grind (arith, nat_tests) in
            let j : key < end = grind (arith, nat_tests) in
            in_first low high key cs (omega arith) (omega arith)
        by_tests false false s e k = f key k

-- the first range of the set does not lie in that of the other, which ends above its start
pub starts_outside : (p q start end : ℕ) (bs cs : List ℕ) → AreBoundaries p (start ∷ end ∷ bs) → AreBoundaries q cs → start < q → IsSubset (start ∷ end ∷ bs) cs → ⊥
starts_outside p q start end bs cs r s l f =
    let h = f start (in_first start end start bs (omega arith) (omega (arith, r.rises.1.0))) in
    let n = inside_below false cs q start (rises_starts q cs (KEYS + 1) s.rises) l in
    absurd (cc)

pub ends_outside : (p q start end low high : ℕ) (bs cs : List ℕ) → AreBoundaries p (start ∷ end ∷ bs) → AreBoundaries q (low ∷ high ∷ cs) → start < high → high < end
    → IsSubset (start ∷ end ∷ bs) (low ∷ high ∷ cs) → ⊥
ends_outside p q start end low high bs cs r s l h f =
    let k = f high (in_first start end high bs (omega arith) h) in
    let g : low ≤ high = omega (arith, s.rises.1.0) in
    let i = above (high + 1) cs high s.rises.1.1 (sym (past_first low high high cs g (omega arith)) ∙ k) in
    omega (arith, i)

-- boundaries that have no first range are none
pub no_range : (low : ℕ) (bs : List ℕ) → AreBoundaries low bs → HasNoPair bs → bs ≡ []
no_range low [] r h = refl
no_range low (b ∷ []) r h = absurd (no_single low b r)
no_range low (a ∷ b ∷ bs) r h = absurd h

-- a range is in no empty set
pub in_nothing : (p start end : ℕ) (bs : List ℕ) → AreBoundaries p (start ∷ end ∷ bs) → IsSubset (start ∷ end ∷ bs) [] → ⊥
in_nothing p start end bs r f =
    let h = f start (in_first start end start bs (omega arith) (omega (arith, r.rises.1.0))) in
    absurd (cc)

-- THE STEPS OF A WALK

module _ (p q start end : ℕ) (xs ys bs : List ℕ) (e : xs ≡ start ∷ end ∷ bs) (r : AreBoundaries p xs) (s : AreBoundaries q ys) where
  -- no range of the other set is left
  pub none_left : HasNoPair ys → IsSubset xs ys → ⊥
  none_left h f =
      let n = no_range q ys s h in
      in_nothing p start end bs (rw e at r) (rw (e, n) at f)

  module _ (low high : ℕ) (cs : List ℕ) (g : ys ≡ low ∷ high ∷ cs) where
    pub past_low_range : high ≤ start → IsSubset xs ys ↔ IsSubset xs cs
    past_low_range l = rw (e, g) (past_other p q start low high (end ∷ bs) cs (rw e at r) (rw g at s) l)

    pub past_inner_range : low ≤ start → end ≤ high → IsSubset xs ys ↔ IsSubset bs ys
    past_inner_range l h = rw (e, g) (past_range p start end low high bs cs (rw e at r) l h)

    pub others_left : AreBoundaries (high + 1) cs
    others_left = boundaries_left q low high cs (rw g at s)

    pub low_outside : start < low → IsSubset xs ys → ⊥
    low_outside l f =
        let s' : AreBoundaries q (low ∷ high ∷ cs) = rw g at s in
        let from_low : AreBoundaries low (low ∷ high ∷ cs) = record { rises = (omega arith, s'.rises.1); ends = s'.ends } in
        starts_outside p low start end bs (low ∷ high ∷ cs) (rw e at r) from_low l (rw (e, g) at f)

    pub high_outside : start < high → high < end → IsSubset xs ys → ⊥
    high_outside l h f = ends_outside p q start end low high bs cs (rw e at r) (rw g at s) l h (rw (e, g) at f)

  pub keys_left : AreBoundaries (end + 1) bs
  keys_left = boundaries_left p start end bs (rw e at r)

-- one equivalence after another
pub joined : {A B C : Type 0} → A ↔ B → B ↔ C → A ↔ C
joined f g = (λ a. g.0 (f.0 a), λ c. f.1 (g.1 c))
