-- Numbers in words, which are read back.
use Rattle.std.proofs.Common.{◌≡◌, ◌≢◌, ◌∙◌, ◌==◌, ℕ, zero, suc, ◌+◌, ◌<◌, Bool, true, false, List, [], ◌∷◌, ◌++◌, length, take, drop, get_or, Option, Some, None, Result, Ok, Bor, ap, ap₂, sym, rules, arith, subst}
use Rattle.std.specs.Prelude.{MatchOption, decimal}
use Rattle.std.specs.Char.{digit_value}
use Rattle.std.specs.List.{after_first, before_first, position_or_len}
use Rattle.std.specs.Str.Parse.{AllDigits, ParsesUnsigned}
use Rattle.std.proofs.lemmas.Fmt.{decimal_is_IsNumeral, parse-decimal}
use Rattle.std.proofs.Math.ListN.{get_or-append, length-append}
use Rattle.std.proofs.Math.Seq.{drop-append-add, get_or-append_seam, take-append_seam}
use Rattle.std.proofs.lemmas.List.Sums.{position_or_len_is}

-- a number that was written is read back
pub read_back : {E : Type 0} (n : ℕ) (words : List ℕ) (r : Result ℕ E) → n < 18446744073709551616 → words ≡ decimal n → ParsesUnsigned 64 10 words r → r ≡ Ok n
read_back n words r small is parsed = parse-decimal 64 n words r small small is parsed

pub all_digits : (n : ℕ) → n < 18446744073709551616 → AllDigits 10 (decimal n)
all_digits n small = (decimal_is_IsNumeral n small).0.1

-- no digit is a mark below '0'
module _ (mark : ℕ) (low : mark < 48) where
  abbrev is_mark : ℕ → Bool
  is_mark b = b == mark

  other : (d : ℕ) → digit_value d < 10 → is_mark d ≡ false
  other d digit = search rules

  no_mark : (ds : List ℕ) → AllDigits 10 ds → (k : ℕ) → k < length ds → is_mark (get_or ds k 0) ≡ false
  no_mark [] all k within = absurd (omega arith)
  no_mark (d ∷ ds) all zero within = other d all.0
  no_mark (d ∷ ds) all (suc k) within = no_mark ds all.1 k (omega arith)

  same : is_mark mark ≡ true
  same = search rules

  place : (ds rest : List ℕ) → AllDigits 10 ds → position_or_len is_mark (ds ++ mark ∷ rest) ≡ length ds
  place ds rest all =
      position_or_len_is is_mark (ds ++ mark ∷ rest) (length ds) 0 (omega (arith, length-append ds (mark ∷ rest)))
      (λ k within. subst (λ b. is_mark b ≡ false) (sym (get_or-append ds (mark ∷ rest) 0 k within)) (no_mark ds all k within))
      (λ within. subst (λ b. is_mark b ≡ true) (sym (get_or-append_seam ds mark rest 0)) same)

  -- words that begin with digits and the mark are split after the digits
  abbrev Split : List ℕ → Option (Bor (List ℕ) × Bor (List ℕ)) → Type 0
  Split s r = MatchOption r (position_or_len is_mark s ≡ length s)
      (λ x. (x.0.now ≡ before_first is_mark s) × (x.1.now ≡ after_first is_mark s) × (position_or_len is_mark s < length s))

  module _ (ds rest words : List ℕ) (all : AllDigits 10 ds) (is : words ≡ ds ++ mark ∷ rest) where
    at : position_or_len is_mark words ≡ length ds
    at = subst (λ s. position_or_len is_mark s ≡ length ds) (sym is) (place ds rest all)

    pub is_split : (r : Option (Bor (List ℕ) × Bor (List ℕ))) → Split words r → r ≢ None
    is_split r split none =
        let whole : position_or_len is_mark words ≡ length words = rw none at split in
        let long : length words ≡ length ds + suc (length rest) = ap length is ∙ length-append ds (mark ∷ rest) in
        omega (arith, whole, at, long)

    pub split_off : (r : Option (Bor (List ℕ) × Bor (List ℕ))) (x : Bor (List ℕ) × Bor (List ℕ)) → Split words r → r ≡ Some x
        → (x.0.now ≡ ds) × (x.1.now ≡ rest)
    split_off r x split some =
        let parts : (x.0.now ≡ before_first is_mark words) × (x.1.now ≡ after_first is_mark words) × (position_or_len is_mark words < length words) = rw some at split in (
          parts.0 ∙ ap₂ (λ (k : ℕ) (s : List ℕ). take k s) at is ∙ take-append_seam ds (mark ∷ rest),
          parts.1 ∙ ap₂ (λ (k : ℕ) (s : List ℕ). drop (k + 1) s) at is ∙ drop-append-add ds (mark ∷ rest) 1,
        )
