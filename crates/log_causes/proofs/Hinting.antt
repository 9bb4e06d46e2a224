-- Where a hint is for.
use Rattle.std.proofs.Common.{◌≡◌, ℕ, true, false, List, refl, sym, subst, inl, inr}
use Rattle.std.specs.Prelude.{Option, Some, None, is_some}
use Rattle.cluster.specs.continued.Jobs.{Continued}
use Rattle.log_line.specs.declared.entry.LogEntry.{LogEntry}
use Rattle.log_causes.specs.declared.hint.MissingOpen.{MissingOpen}
use Rattle.log_causes.specs.Hints.{IsHintOf, IsTried}

module _ (job : Continued) (entries : List LogEntry) (task index : ℕ) (found : Option ℕ) where
  -- there is no start
  pub hint_alone : (hint : Option MissingOpen) → found ≡ None → IsTried job entries task index hint → IsHintOf job entries task found index hint
  hint_alone hint none tried = subst (λ (f : Option ℕ). IsHintOf job entries task f index hint) (sym none) tried

  at_start : (start : ℕ) (hint : Option MissingOpen) → is_some hint ≡ true → IsTried job entries task start hint → IsHintOf job entries task (Some start) index hint
  at_start start (Some there) is tried = inl (there, refl, tried)
  at_start start None is tried = absurd (cc)

  -- a line before the last start does
  pub hint_at_start : (start : ℕ) (hint : Option MissingOpen) → found ≡ Some start → is_some hint ≡ true → IsTried job entries task start hint
      → IsHintOf job entries task found index hint
  hint_at_start start hint here is tried = subst (λ (f : Option ℕ). IsHintOf job entries task f index hint) (sym here) (at_start start hint is tried)

  after_start : (start : ℕ) (first hint : Option MissingOpen) → is_some first ≡ false → IsTried job entries task start first → IsTried job entries task index hint
      → IsHintOf job entries task (Some start) index hint
  after_start start (Some there) hint not first tried = absurd (cc)
  after_start start None hint not first tried = inr (first, tried)

  -- a line before the last start does not
  pub hint_after_start : (start : ℕ) (first hint : Option MissingOpen) → found ≡ Some start → is_some first ≡ false → IsTried job entries task start first
      → IsTried job entries task index hint → IsHintOf job entries task found index hint
  hint_after_start start first hint here not tried_first tried =
      subst (λ (f : Option ℕ). IsHintOf job entries task f index hint) (sym here) (after_start start first hint not tried_first tried)
