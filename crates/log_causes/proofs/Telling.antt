-- The grant that words tell.
use Rattle.std.proofs.Common.{◌≡◌, ◌∙◌, ℕ, ◌+◌, ◌<◌, ◌≤◌, ◌^◌, ◌≢◌, ◌==◌, Bool, true, false, List, ◌∷◌, ◌++◌, Option, Some, None, Result, Ok, MatchOption, Bor, refl, sym, ap, subst, arith, ⊎_elim, eq-or-lt_of_le, le_of_suc-le-suc, slice_get, append_assoc, codes, decimal, drop, get_or, length}
use Rattle.std.proofs.lemmas.Bool.Decides.{Decides-eqb, nat_tests}
use Rattle.std.proofs.lemmas.Fmt.{digits_decimal}
use Rattle.std.proofs.lemmas.List.Sums.{fails_before_first}
use Rattle.std.proofs.lemmas.Option.{slice_get_within}
use Rattle.std.proofs.lemmas.Slice.Eq.{starts_is}
use Rattle.std.proofs.lemmas.Str.Parse.{IsNumeralModel, not_in_digits, numerals_by_value, tells_digits}
use Rattle.std.proofs.lemmas.Str.Pattern.{IsSplitOnceResult, split_after}
use Rattle.std.specs.Str.Parse.{AllDigits, digits_value}
use Rattle.log_line.specs.declared.entry.LogEntry.{LogEntry}
use Rattle.log_causes.specs.declared.missing.MissingGrants.{MissingGrants}
use Rattle.log_causes.specs.Hints.{AreTold, IsOneTold, tells_grant}

numerals : IsNumeralModel (AllDigits 10) (digits_value 10)
numerals = numerals_by_value (AllDigits 10) tells_digits

-- no space stands in the name of a `grant`, or in a number
name_whole : (i : ℕ) → i < length (codes "grant") → get_or (codes "grant") i 0 ≢ 32
name_whole i low = let passes = fails_before_first (λ b. b == 32) (codes "grant") i 0 low in grind (arith, nat_tests)

number_whole : (number : ℕ) → number < 2 ^ 64 → (i : ℕ) → i < length (decimal number) → get_or (decimal number) i 0 ≢ 32
number_whole number small i low = not_in_digits numerals (decimal number) 32 (digits_decimal numerals number small) (λ within. omega (arith, within.0)) i low

-- a test that cannot pass fails
pub fails : (test : Bool) → (test ≡ true → ⊥) → test ≡ false
fails true never = absurd (never refl)
fails false never = refl

module _ (number : ℕ) (small : number < 2 ^ 64) (words : List ℕ) (tells : tells_grant number words ≡ true) where
  abbrev pub told : List ℕ
  told = codes "grant " ++ (decimal number ++ codes " ")

  abbrev pub later : List ℕ
  later = drop (length told) words

  parts : words ≡ codes "grant" ++ (32 ∷ (decimal number ++ (32 ∷ later)))
  parts = (starts_is Decides-eqb words told _ refl).0 tells ∙ ap (λ (t : List ℕ). codes "grant " ++ t) (append_assoc (decimal number) (codes " ") later)

  -- after the first space stands the number
  pub after_name : (r : Option (Bor (List ℕ) × Bor (List ℕ))) → IsSplitOnceResult 32 words r → MatchOption r ⊥ (λ x. x.1.now ≡ decimal number ++ (32 ∷ later))
  after_name None split = split_after 32 words (codes "grant") _ None split (omega arith) parts name_whole
  after_name (Some x) split = (split_after 32 words (codes "grant") _ (Some x) split (omega arith) parts name_whole).1

  -- and before the next one
  pub before_later : (text : List ℕ) (r : Option (Bor (List ℕ) × Bor (List ℕ))) → text ≡ decimal number ++ (32 ∷ later) → IsSplitOnceResult 32 text r
      → MatchOption r ⊥ (λ x. x.0.now ≡ decimal number)
  before_later text None is split = split_after 32 text (decimal number) later None split (omega arith) is (number_whole number small)
  before_later text (Some x) is split = (split_after 32 text (decimal number) later (Some x) split (omega arith) is (number_whole number small)).0

-- what is told is told once
module _ (words : List ℕ) (told : Option ℕ) where
  untold : (number : ℕ) → told ≡ None → told ≡ Some number → ⊥
  untold number none some = absurd (cc (sym none ∙ some))

  -- nothing is told
  pub none_told : told ≡ None → ((number : ℕ) → number < 2 ^ 64 → tells_grant number words ≡ true → told ≡ Some number)
      → (number : ℕ) → number < 2 ^ 64 → tells_grant number words ≡ false
  none_told none only number small = fails (tells_grant number words) (λ tells. untold number none (only number small tells))

  -- another number is told
  pub other_told : (there number : ℕ) → told ≡ Some there → told ≡ Some number → number ≡ there
  other_told there number is other = cc

-- a number is read once
pub read_once : {E : Type 0} (read : Result ℕ E) (one other : ℕ) → read ≡ Ok one → read ≡ Ok other → Some one ≡ Some other
read_once read one other is here = cc

some_entry : {one other : LogEntry} → Some one ≡ Some other → one ≡ other
some_entry is = cc

-- no entry before a place tells one of some grants
abbrev pub NoneTold : MissingGrants → List LogEntry → ℕ → Type 0
NoneTold grants entries to = (place : ℕ) (entry : LogEntry) → place < to → slice_get entries place ≡ Some entry → IsOneTold grants entry.line.reply false

module _ (grants : MissingGrants) (entries : List LogEntry) (i : ℕ) (so_far : NoneTold grants entries i) where
  -- nor does this one
  pub none_more : (here : LogEntry) → slice_get entries i ≡ Some here → IsOneTold grants here.line.reply false → NoneTold grants entries (i + 1)
  none_more here there untold place entry within is = ⊎_elim
      (λ (same : place ≡ i). subst (λ (e : LogEntry). IsOneTold grants e.line.reply false) (some_entry (sym there ∙ ap (slice_get entries) (sym same) ∙ is)) untold)
      (λ (low : place < i). so_far place entry low is) (eq-or-lt_of_le (le_of_suc-le-suc (omega arith)))

  -- and none does at all
  pub none_all : length entries ≤ i → AreTold grants entries false
  none_all end place entry is = let within = slice_get_within entries place entry is in so_far place entry (omega (arith, within)) is
