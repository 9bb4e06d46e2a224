-- The first entry that passes.
use Rattle.std.proofs.Common.{◌≡◌, ℕ, Bool, List, sym, ◌∙◌, arith}
use Rattle.std.specs.Prelude.{Option, Some, None}
use Rattle.std.proofs.lemmas.Bool.{true≢false}
use Rattle.std.proofs.lemmas.Option.{slice_get_within}
use Rattle.log_line.specs.declared.entry.LogEntry.{LogEntry}
use Rattle.log_line.specs.Sent.{IsFirst, IsFirstFrom}

-- where none was found there is none
pub none_first : (passes : LogEntry → Bool) (entries : List LogEntry) (found : Option ℕ) → IsFirstFrom passes entries 0 found → found ≡ None → (place : ℕ)
    → IsFirst passes entries 0 place → ⊥
none_first passes entries None none is place first =
    true≢false (sym first.is ∙ none place first.entry (omega arith) (slice_get_within entries place first.entry first.here) first.here)
none_first passes entries (Some at) found is place first = absurd (cc)
