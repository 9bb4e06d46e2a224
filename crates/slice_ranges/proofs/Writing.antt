-- What is known of boundaries that are written from the lowest key on.
use Rattle.std.proofs.Common.{◌≡◌, ℕ, ◌+◌, ◌<◌, ◌≤◌, Bool, false, not, List, [], ◌∷◌, ◌++◌, sym, ap, ◌∙◌, inl, inr, arith}
use Rattle.std.proofs.lemmas.Bool.{cases_lt}
use Rattle.slice_ranges.specs.Sets.{has, Rises}
use Rattle.slice_ranges.proofs.Boundaries.{rises_below, rises_push, inside_push_below, inside_push_above}

-- what was written up to p
pub record IsMade (out : List ℕ) (inside : Bool) (p : ℕ) (want : ℕ → Bool) : Type 0 where
  pub before : (k : ℕ) → k < p → has out k ≡ want k
  pub after : (k : ℕ) → p ≤ k → has out k ≡ inside
  pub rises : Rises 0 out p

-- nothing is written where membership stays
pub writing_same : (out : List ℕ) (inside : Bool) (p m : ℕ) (want : ℕ → Bool) → IsMade out inside p want → p ≤ m → ((k : ℕ) → p ≤ k → k < m → want k ≡ inside) → want m ≡ inside → IsMade out inside (m + 1) want
writing_same out inside p m want writing l between at = record {
  before = λ k g. elim (cases_lt k p) [
    | inl below ↦ writing.before k below
    | inr above ↦ elim (cases_lt k m) [
      | inl b ↦ writing.after k above ∙ sym (between k above b)
      | inr b ↦ let e : k ≡ m = omega arith in writing.after k above ∙ sym (rw e at)
    ]
  ];
  after = λ k g. writing.after k (omega arith);
  rises = rises_below 0 out p (m + 1) writing.rises (omega arith);
}

-- a boundary is written where it turns
pub writing_turn : (out : List ℕ) (inside : Bool) (p m : ℕ) (want : ℕ → Bool) → IsMade out inside p want → p ≤ m → ((k : ℕ) → p ≤ k → k < m → want k ≡ inside) → want m ≡ not inside → IsMade (out ++ m ∷ []) (not inside) (m + 1) want
writing_turn out inside p m want writing l between at = record {
  before = λ k g. elim (cases_lt k m) [
    | inl b ↦ inside_push_below false out m k b ∙ elim (cases_lt k p) [
      | inl below ↦ writing.before k below
      | inr above ↦ writing.after k above ∙ sym (between k above b)
    ]
    | inr b ↦ let e : k ≡ m = omega arith in inside_push_above false 0 out p m k writing.rises l b ∙ ap not (writing.after k (omega arith)) ∙ sym (rw e at)
  ];
  after = λ k g. inside_push_above false 0 out p m k writing.rises l (omega arith) ∙ ap not (writing.after k (omega arith));
  rises = rises_push 0 out p m writing.rises l;
}
