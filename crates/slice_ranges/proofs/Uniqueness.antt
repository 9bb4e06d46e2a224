-- Equal sets have equal boundaries.
use Rattle.std.proofs.Common.{◌≡◌, ℕ, ◌+◌, ◌<◌, ◌≤◌, Bool, true, false, not, List, [], ◌∷◌, refl, sym, ◌∙◌, inl, inr, arith}
use Rattle.std.proofs.lemmas.Bool.{le-ltb, cases_lt, cases_order}
use Rattle.slice_ranges.specs.declared.key.TheConstants.{KEYS}
use Rattle.slice_ranges.specs.Sets.{inside_after, has, Rises, IsRanges}
use Rattle.slice_ranges.proofs.Boundaries.{inside_below, rises_starts, rises_bounds}

not_itself : (s : Bool) → s ≡ not s → ⊥
not_itself true e = cc
not_itself false e = cc

-- at its first boundary a list turns
turns : (s : Bool) (b : ℕ) (bs : List ℕ) (high : ℕ) → Rises (b + 1) bs high → inside_after s (b ∷ bs) b ≡ not s
turns s b bs high r = let l : b ≤ b = omega arith in rw (le-ltb b b l) (inside_below (not s) bs (b + 1) b (rises_starts (b + 1) bs high r) (omega arith))

-- past its first boundary a list is its tail
tail_above : (s : Bool) (b : ℕ) (bs : List ℕ) (k : ℕ) → b + 1 ≤ k → inside_after s (b ∷ bs) k ≡ inside_after (not s) bs k
tail_above s b bs k h = let l : b ≤ k = omega arith in rw (le-ltb k b l)

same_from : (s : Bool) (low high : ℕ) (xs ys : List ℕ) → Rises low xs high → Rises low ys high → ((k : ℕ) → low ≤ k → k < high → inside_after s xs k ≡ inside_after s ys k) → xs ≡ ys
same_from s low high [] [] r q e = refl
same_from s low high [] (y ∷ ys) r q e = absurd (not_itself s (e y q.0 (let h = rises_bounds (y + 1) ys high q.1 in omega (arith, h)) ∙ turns s y ys high q.1))
same_from s low high (x ∷ xs) [] r q e = absurd (not_itself s (sym (e x r.0 (let h = rises_bounds (x + 1) xs high r.1 in omega (arith, h))) ∙ turns s x xs high r.1))
same_from s low high (x ∷ xs) (y ∷ ys) r q e =
    let hx = rises_bounds (x + 1) xs high r.1 in
    let hy = rises_bounds (y + 1) ys high q.1 in
    elim (cases_order x y) [
      | inl same ↦ (let rest = same_from (not s) (x + 1) high xs ys r.1 (rw same q.1) (λ k l g. sym (tail_above s x xs k l) ∙ e k (omega (arith, r.0)) g ∙ tail_above s y ys k (omega (arith, same))) in rw (same, rest) refl)
      | inr (inl less) ↦ absurd (not_itself s (sym (sym (turns s x xs high r.1) ∙ e x r.0 (omega (arith, hx)) ∙ inside_below s (y ∷ ys) y x (omega arith) less)))
      | inr (inr more) ↦ absurd (not_itself s (sym (inside_below s (x ∷ xs) x y (omega arith) more) ∙ e y q.0 (omega (arith, hy)) ∙ turns s y ys high q.1))
    ]

pub same_ranges : (xs ys : List ℕ) → IsRanges xs → IsRanges ys → ((k : ℕ) → k < KEYS → has xs k ≡ has ys k) → xs ≡ ys
same_ranges xs ys r q e = same_from false 0 (KEYS + 1) xs ys r.rises q.rises (λ k l g.
    elim (cases_lt k KEYS) [
      | inl below ↦ e k below
      | inr above ↦ (let h : k ≡ KEYS = omega arith in rw h (r.ends ∙ sym q.ends))
    ])
