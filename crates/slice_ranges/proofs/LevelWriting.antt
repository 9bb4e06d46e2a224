-- What writing the boundaries of levels keeps.
use Rattle.std.proofs.Common.{◌≡◌, ℕ, ◌+◌, ◌<◌, ◌≤◌, Bool, true, false, not, List, [], ◌∷◌, ◌++◌, refl, sym, ap, ◌∙◌, inl, inr, ◌⊎◌, arith}
use Rattle.std.proofs.lemmas.Bool.{lt-ltb, le-ltb, cases_lt}
use Rattle.slice_ranges.specs.declared.key.TheConstants.{KEYS}
use Rattle.slice_ranges.specs.Sets.{has, IsRanges}
use Rattle.slice_ranges.specs.Levels.{Levels, value_after, LevelsRise}
use Rattle.slice_ranges.proofs.Boundaries.{rises_below, rises_push, inside_push_below, inside_push_above}
use Rattle.slice_ranges.proofs.Leveling.{value_below, value_above, levels_start, levels_bounds}
use Rattle.slice_ranges.proofs.Writing.{IsMade, writing_same, writing_turn}

-- the levels below p are written, and `here` are left
pub record IsWritten (all here : Levels Bool) (out : List ℕ) (inside : Bool) (p : ℕ) : Type 0 where
  pub writing : IsMade out inside p (value_after false all)
  pub same : (k : ℕ) → p ≤ k → value_after false all k ≡ value_after inside here k
  pub rises : LevelsRise p here KEYS

module _ (all here : Levels Bool) (s : ℕ × Bool) (rest : Levels Bool) (out : List ℕ) (inside : Bool) (p : ℕ) (progress : IsWritten all here out inside p) (e : here ≡ s ∷ rest) where
  front : IsWritten all (s ∷ rest) out inside p
  front = rw e at progress

  from_level : (k : ℕ) → s.0 ≤ k → value_after false all k ≡ value_after s.1 rest k
  from_level k l = front.same k (omega (arith, front.rises.0)) ∙ value_above inside s rest k l

  at_level : value_after false all s.0 ≡ s.1
  at_level = from_level s.0 (omega arith) ∙ value_below s.1 rest (s.0 + 1) s.0 (levels_start (s.0 + 1) rest KEYS front.rises.1) (omega arith)

  between : (k : ℕ) → p ≤ k → k < s.0 → value_after false all k ≡ inside
  between k l g = front.same k l ∙ (rw (lt-ltb k s.0 g))

  pub level_same : s.1 ≡ inside → IsWritten all rest out inside (s.0 + 1)
  level_same same = record {
    writing = writing_same out inside p s.0 (value_after false all) progress.writing front.rises.0 between (at_level ∙ same);
    same = λ k g. rw (← same) (from_level k (omega arith));
    rises = front.rises.1;
  }

  pub level_turn : s.1 ≡ not inside → IsWritten all rest (out ++ s.0 ∷ []) s.1 (s.0 + 1)
  level_turn other = record {
    writing = rw other (writing_turn out inside p s.0 (value_after false all) progress.writing front.rises.0 between (at_level ∙ other));
    same = λ k g. from_level k (omega arith);
    rises = front.rises.1;
  }

pub levels_end : (all here : Levels Bool) (out : List ℕ) (inside : Bool) (p : ℕ) (new : List ℕ) → IsWritten all here out inside p → here ≡ [] → ((inside ≡ false) × (new ≡ out)) ⊎ ((inside ≡ true) × (new ≡ out ++ KEYS ∷ [])) → IsRanges new × ((k : ℕ) → k < KEYS → has new k ≡ value_after false all k)
levels_end all here out inside p new progress h e = at_end (levels_bounds p here KEYS progress.rises) e
  where
    keys : (k : ℕ) → has out k ≡ value_after false all k
    keys k = elim (cases_lt k p) [ inl below ↦ progress.writing.before k below | inr above ↦ progress.writing.after k above ∙ sym (progress.same k above ∙ (rw h refl)) ]

    at_end : p ≤ KEYS → ((inside ≡ false) × (new ≡ out)) ⊎ ((inside ≡ true) × (new ≡ out ++ KEYS ∷ [])) → IsRanges new × ((k : ℕ) → k < KEYS → has new k ≡ value_after false all k)
    at_end top (inl c) = rw c.1 (record { rises = rises_below 0 out p (KEYS + 1) progress.writing.rises (omega arith); ends = progress.writing.after KEYS top ∙ c.0 }, λ k l. keys k)
    at_end top (inr c) = rw c.1 (
      record {
        rises = rises_push 0 out p KEYS progress.writing.rises top;
        ends = inside_push_above false 0 out p KEYS KEYS progress.writing.rises top (omega arith) ∙ ap not (progress.writing.after KEYS top ∙ c.0);
      },
      λ k l. inside_push_below false out KEYS k l ∙ keys k,
    )
