-- How many keys a set has.
use Rattle.std.proofs.Common.{◌≡◌, ℕ, zero, suc, ◌+◌, ◌-◌, ◌<◌, ◌≤◌, Bool, true, false, not, List, [], ◌∷◌, refl, sym, ◌∙◌, inl, inr, arith}
use Rattle.std.specs.Prelude.{if◌then◌else◌}
use Rattle.std.proofs.lemmas.Bool.{le-ltb, cases_lt}
use Rattle.slice_ranges.specs.declared.key.TheConstants.{KEYS}
use Rattle.slice_ranges.specs.Sets.{inside_after, has, count, Rises, IsRanges}
use Rattle.slice_ranges.specs.Passing.{StartsAt}
use Rattle.slice_ranges.proofs.Boundaries.{inside_below, rises_starts, rises_from, rises_bounds}

abbrev pub width_over : Bool → ℕ → ℕ → ℕ
width_over inside from to = if inside then to - from else 0

count_zero : (f : ℕ → Bool) → count f 0 ≡ 0
unfolding count
count_zero f = refl

count_next : (f : ℕ → Bool) (m : ℕ) → count f (suc m) ≡ (if f m then count f m + 1 else count f m)
unfolding count
count_next f m = refl

step_most : (b : Bool) (n m : ℕ) → n ≤ m → (if b then n + 1 else n) ≤ suc m
step_most true n m l = omega arith
step_most false n m l = omega arith

pub count_most : (f : ℕ → Bool) (m : ℕ) → count f m ≤ m
count_most f zero = rw count_zero (omega arith)
count_most f (suc m) = rw (count_next f m) (step_most (f m) (count f m) m (count_most f m))

step_alike : (v : Bool) (p m c n : ℕ) → p ≤ m → n ≡ c + width_over v p m → (if v then n + 1 else n) ≡ c + width_over v p (suc m)
step_alike true p m c n l e = omega arith
step_alike false p m c n l e = e

none_alike : (v : Bool) (m c : ℕ) → c ≡ c + width_over v m m
none_alike true m c = omega arith
none_alike false m c = omega arith

-- over keys that all answer alike
count_alike : (f : ℕ → Bool) (p m : ℕ) (v : Bool) → p ≤ m → ((k : ℕ) → p ≤ k → k < m → f k ≡ v) → count f m ≡ count f p + width_over v p m
count_alike f p zero v l h = let e : p ≡ 0 = omega arith in rw e (none_alike v 0 (count f 0))
count_alike f p (suc m) v l h = elim (cases_lt m p) [
  | inl past ↦ (let e : p ≡ suc m = omega arith in rw e (none_alike v (suc m) (count f (suc m))))
  | inr within ↦ rw (count_next f m, h m within (omega arith)) (step_alike v p m (count f p) (count f m) within (count_alike f p m v within (λ k a b. h k a (omega arith))))
]

-- the keys below `last` are counted
pub record IsCounted (all rest : List ℕ) (inside : Bool) (last total : ℕ) : Type 0 where
  pub same : (k : ℕ) → last ≤ k → has all k ≡ inside_after inside rest k
  pub rises : Rises last rest (KEYS + 1)
  pub within : last ≤ KEYS
  pub counts : total ≡ count (has all) last

pub count_start : (all : List ℕ) → IsRanges all → IsCounted all all false 0 0
count_start all r = record { same = λ k l. refl; rises = r.rises; within = omega arith; counts = sym (count_zero (has all)) }

pub count_step : (all here : List ℕ) (b : ℕ) (rest : List ℕ) (inside : Bool) (last total : ℕ) → IsCounted all here inside last total → here ≡ b ∷ rest
    → (last ≤ b) × (total + width_over inside last b ≤ b) × IsCounted all rest (not inside) b (total + width_over inside last b)
count_step all here b rest inside last total c e =
    let d : IsCounted all (b ∷ rest) inside last total = rw e at c in
    let top : b + 1 ≤ KEYS + 1 = rises_bounds (b + 1) rest (KEYS + 1) d.rises.1 in
    let alike = count_alike (has all) last b inside d.rises.0 (λ k l g. d.same k l ∙ inside_below inside (b ∷ rest) b k (omega arith) g) in
    let total_is : total + width_over inside last b ≡ count (has all) b = rw d.counts (sym alike) in (
      d.rises.0,
      rw total_is (count_most (has all) b),
      record {
        same = λ k l. d.same k (omega (arith, d.rises.0)) ∙ (rw (le-ltb k b l) refl);
        rises = rises_from (b + 1) b rest (KEYS + 1) d.rises.1 (starts rest (rises_starts (b + 1) rest (KEYS + 1) d.rises.1)) (omega (arith, top));
        within = omega (arith, top);
        counts = total_is;
      },
    )
  where
    starts : (xs : List ℕ) → StartsAt (b + 1) xs → StartsAt b xs
    starts [] h = tt
    starts (x ∷ xs) h = omega (arith, h)

pub count_end : (all here : List ℕ) (inside : Bool) (last total : ℕ) → IsRanges all → IsCounted all here inside last total → here ≡ [] → total ≡ count (has all) KEYS
count_end all here inside last total r c e =
    let d : IsCounted all [] inside last total = rw e at c in
    let out : inside ≡ false = sym (d.same KEYS d.within) ∙ r.ends in
    let alike = count_alike (has all) last KEYS false d.within (λ k l g. d.same k l ∙ out) in
    d.counts ∙ sym (alike ∙ (omega arith))
