-- The set of the keys that pass a test.
use Rattle.std.proofs.Common.{◌≡◌, ◌∙◌, ℕ, zero, suc, ◌+◌, ◌<◌, ◌≤◌, Bool, true, false, not, List, [], ◌∷◌, refl, sym, ap, arith, inl, inr}
use Rattle.std.specs.Prelude.{if◌then◌else◌}
use Rattle.std.proofs.lemmas.Bool.{le-ltb, cases_lt}
use Rattle.slice_ranges.specs.declared.key.TheConstants.{KEYS}
use Rattle.slice_ranges.specs.Sets.{inside_after, has, Rises, IsRanges, differ, turns_from, keys_where}
use Rattle.slice_ranges.proofs.Boundaries.{inside_below, rises_starts}
use Rattle.slice_ranges.proofs.Uniqueness.{same_ranges}

differs : (a b : Bool) → differ a b ≡ true → not a ≡ b
differs true false h = refl
differs false true h = refl
differs true true h = absurd (cc)
differs false false h = absurd (cc)

agrees : (a b : Bool) → differ a b ≡ false → a ≡ b
agrees true true h = refl
agrees false false h = refl
agrees true false h = absurd (cc)
agrees false true h = absurd (cc)

turns_rise : (member : ℕ → Bool) (n low : ℕ) (inside : Bool) (high : ℕ) → low + n + 1 ≡ high → Rises low (turns_from member inside low n) high
unfolding turns_from
turns_rise member zero low inside high e = end_is inside
  where
    end_is : (b : Bool) → Rises low (if b then low ∷ [] else []) high
    end_is true = (omega arith, omega arith)
    end_is false = omega arith
turns_rise member (suc n) low inside high e =
    by_test (differ inside (member low)) (turns_rise member n (low + 1) (member low) high (omega arith)) (lower _ (turns_rise member n (low + 1) inside high (omega arith)))
  where
    lower : (bs : List ℕ) → Rises (low + 1) bs high → Rises low bs high
    lower [] h = omega (arith, h)
    lower (b ∷ bs) h = (omega (arith, h.0), h.1)

    by_test : (t : Bool) → Rises (low + 1) (turns_from member (member low) (low + 1) n) high → Rises low (turns_from member inside (low + 1) n) high
        → Rises low (if t then low ∷ turns_from member (member low) (low + 1) n else turns_from member inside (low + 1) n) high
    by_test true turn stay = (omega arith, turn)
    by_test false turn stay = stay

-- a turn at `low`, or none, and what follows it
value_at : (member : ℕ → Bool) (n low : ℕ) (inside : Bool) (key : ℕ) (t : Bool) → differ inside (member low) ≡ t → low ≤ key
    → ((b : Bool) → b ≡ member low → inside_after b (turns_from member b (low + 1) n) key ≡ member key)
    → inside_after inside (if t then low ∷ turns_from member (member low) (low + 1) n else turns_from member inside (low + 1) n) key ≡ member key
value_at member n low inside key true d l later = rw (le-ltb key low l, differs inside (member low) d) (later (member low) refl)
value_at member n low inside key false d l later = later inside (agrees inside (member low) d)

turns_have : (member : ℕ → Bool) (n low : ℕ) (inside : Bool) (key : ℕ) → low ≤ key → key < low + n → inside_after inside (turns_from member inside low n) key ≡ member key
unfolding turns_from
turns_have member zero low inside key l h = absurd (omega arith)
turns_have member (suc n) low inside key l h =
    value_at member n low inside key (differ inside (member low)) refl l (λ b is. elim (cases_lt low key) [
      | inl later ↦ turns_have member n (low + 1) b key (omega arith) (omega arith)
      | inr here ↦
          let e : low ≡ key = omega arith in
          let starts = rises_starts (low + 1) (turns_from member b (low + 1) n) (low + 1 + n + 1) (turns_rise member n (low + 1) b (low + 1 + n + 1) refl) in
          inside_below b (turns_from member b (low + 1) n) (low + 1) key starts (omega arith) ∙ is ∙ ap member e
    ])

end_after : (member : ℕ → Bool) (n low : ℕ) (inside : Bool) (key : ℕ) (t : Bool) → differ inside (member low) ≡ t → low ≤ key
    → ((b : Bool) → inside_after b (turns_from member b (low + 1) n) key ≡ false)
    → inside_after inside (if t then low ∷ turns_from member (member low) (low + 1) n else turns_from member inside (low + 1) n) key ≡ false
end_after member n low inside key true d l later = rw (le-ltb key low l, differs inside (member low) d) (later (member low))
end_after member n low inside key false d l later = later inside

turns_end : (member : ℕ → Bool) (n low : ℕ) (inside : Bool) (key : ℕ) → low + n ≤ key → inside_after inside (turns_from member inside low n) key ≡ false
unfolding turns_from
turns_end member zero low true key l = let h : low ≤ key = omega arith in rw (le-ltb key low h) refl
turns_end member zero low false key l = refl
turns_end member (suc n) low inside key l = end_after member n low inside key (differ inside (member low)) refl (omega arith) (λ b. turns_end member n (low + 1) b key (omega arith))

-- a set of the keys that pass a test is the set of them
pub is_where : (member : ℕ → Bool) (bs : List ℕ) → IsRanges bs → ((key : ℕ) → key < KEYS → has bs key ≡ member key) → bs ≡ keys_where member
is_where member bs ranges same =
    same_ranges bs (keys_where member) ranges
    (record { rises = turns_rise member KEYS 0 false (KEYS + 1) (omega arith); ends = turns_end member KEYS 0 false KEYS (omega arith) })
    (λ key l. same key l ∙ sym (turns_have member KEYS 0 false key (omega arith) (omega arith)))

-- the set of the keys that pass a test has them
pub has-where : (member : ℕ → Bool) (key : ℕ) → key < KEYS → has (keys_where member) key ≡ member key
has-where member key l = turns_have member KEYS 0 false key (omega arith) (omega arith)
