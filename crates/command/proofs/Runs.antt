-- The bytes after the last end of a line.
use Rattle.std.proofs.Common.{◌≡◌, ◌≢◌, ◌∙◌, ◌<◌, ◌≤◌, ◌+◌, ◌-◌, ℕ, suc, Bool, true, false, List, [], ◌∷◌, ◌++◌, All, length, length-append, length-drop, take, drop, get_or, get_or-take, append_assoc, refl, sym, ap, subst, arith}
use Rattle.std.specs.Prelude.{◌==◌, nat_lt, slice_index, if◌then◌else◌}
use Rattle.std.specs.Io.{IsEmptyOrEndsWith}
use Rattle.std.proofs.lemmas.List.{get_or-append-add, get_or-drop, get_or_default, length-take-le, take-append-drop}
use Rattle.std.proofs.lemmas.List.Elements.{All-append}
use Rattle.std.specs.List.{AllByRecursion}
use Rattle.std.proofs.lemmas.Bool.Decides.{nat_tests}
use Rattle.memchr.specs.Find.{NoneAfter, Nowhere, Passes, is_byte}
use Rattle.program_io.specs.declared.line.TheConstants.{MOST_LINE_BYTES}
use Rattle.program_io.specs.Lines.{is_long}
use Rattle.program_io.proofs.PartReading.{long_by_many}
use Rattle.log_line.specs.Files.{FileLine, line_with, in_front, lines_in, numbered, AreShort}
use Rattle.command.specs.Audits.{EndsInLine}

-- ---- piece by piece

pub nothing_yet : EndsInLine [] 0
nothing_yet = record {
  before = [];
  line = [];
  parts = refl;
  whole = λ low. absurd (omega arith);
  unended = λ k d low is. absurd (omega (arith, low));
  length_is = refl;
}

module _ (bytes piece : List ℕ) (many : ℕ) (so_far : EndsInLine bytes many) where
  -- a piece with no end of a line
  pub goes_on : Nowhere (Passes (is_byte 10) piece) 0 (length piece) → EndsInLine (bytes ++ piece) (many + length piece)
  goes_on none = record {
    before = so_far.before;
    line = so_far.line ++ piece;
    parts = ap (λ (xs : List ℕ). xs ++ piece) so_far.parts ∙ append_assoc so_far.before so_far.line piece;
    whole = so_far.whole;
    unended = All-append (λ b. b ≢ 10) so_far.line piece so_far.unended (λ k d low is.
        let here : get_or piece k 0 ≡ 10 = get_or_default piece k 0 d low ∙ is in none k (omega arith) low (rw here refl));
    length_is = let n = so_far.length_is in let sum = length-append so_far.line piece in omega (arith, n, sum);
  }

  module _ (end : ℕ) (found : NoneAfter (Passes (is_byte 10) piece) 0 (length piece) end) (is : Passes (is_byte 10) piece end) where
    here : get_or piece end 0 ≡ 10
    here = grind (arith, nat_tests)

    ends_there : slice_index (bytes ++ take (end + 1) piece) (length (bytes ++ take (end + 1) piece) - 1) ≡ 10
    ends_there =
        let high = found.high in
        let long : length (take (end + 1) piece) ≡ end + 1 = length-take-le (end + 1) piece (omega (arith, high)) in
        let sum = length-append bytes (take (end + 1) piece) in
        let last : length (bytes ++ take (end + 1) piece) - 1 ≡ length bytes + end = omega (arith, long, sum) in
        rw last (get_or-append-add bytes (take (end + 1) piece) end 0 ∙ get_or-take (end + 1) piece end 0 (omega arith) ∙ here)

    -- a piece with one
    pub begins_anew : EndsInLine (bytes ++ piece) (length piece - end - 1)
    begins_anew = record {
      before = bytes ++ take (end + 1) piece;
      line = drop (end + 1) piece;
      parts = sym (append_assoc bytes (take (end + 1) piece) (drop (end + 1) piece) ∙ ap (λ (xs : List ℕ). bytes ++ xs) (take-append-drop (end + 1) piece));
      whole = λ some. ends_there;
      unended = λ k d low is_end.
          let rest = length-drop (end + 1) piece in
          let within : end + 1 + k < length piece = omega (arith, rest, low) in
          let there : get_or piece (end + 1 + k) 0 ≡ 10 = get_or_default piece (end + 1 + k) 0 d within ∙ sym (get_or-drop (end + 1) piece k d) ∙ is_end in
          found.after (end + 1 + k) (omega arith) within (rw there refl);
      length_is = let rest = length-drop (end + 1) piece in omega (arith, rest);
    }

-- ---- byte by byte

abbrev longer : ℕ → ℕ → ℕ
longer run byte = if byte == 10 then 0 else run + 1

abbrev run_after : ℕ → List ℕ → ℕ
run_after run [] = run
run_after run (byte ∷ bytes) = run_after (longer run byte) bytes

run_append : (run : ℕ) (xs ys : List ℕ) → run_after run (xs ++ ys) ≡ run_after (run_after run xs) ys
run_append run [] ys = refl
run_append run (x ∷ xs) ys = run_append (longer run x) xs ys

at_end : (run x : ℕ) (xs : List ℕ) → slice_index (x ∷ xs) (length xs) ≡ 10 → run_after run (x ∷ xs) ≡ 0
at_end run x [] is = rw is refl
at_end run x (y ∷ ys) is = at_end (longer run x) y ys is

at_start : (xs : List ℕ) → IsEmptyOrEndsWith xs 10 → run_after 0 xs ≡ 0
at_start [] whole = refl
at_start (x ∷ xs) whole =
    let last : suc (length xs) - 1 ≡ length xs = omega arith in
    at_end 0 x xs (subst (λ (n : ℕ). slice_index (x ∷ xs) n ≡ 10) last (whole (omega arith)))

not_true : (b : Bool) → (b ≡ true → ⊥) → b ≡ false
not_true true h = absurd (h refl)
not_true false h = refl

without_end : (run : ℕ) (xs : List ℕ) → All (λ b. b ≢ 10) xs → run_after run xs ≡ run + length xs
without_end run [] unended = omega arith
without_end run (x ∷ xs) unended =
    let other : (x == 10) ≡ false = not_true (x == 10) (λ is. let ten : x ≡ 10 = grind (arith, nat_tests) in unended 0 x (omega arith) ten) in
    let rest = without_end (run + 1) xs (λ k d low. unended (suc k) d (omega (arith, low))) in
    rw other (omega (arith, rest))

run_of : (bytes : List ℕ) (many : ℕ) → EndsInLine bytes many → run_after 0 bytes ≡ many
run_of bytes many ends =
    let counted = without_end 0 ends.line ends.unended in
    let whole : run_after 0 ends.line ≡ length ends.line = omega (arith, counted) in
    ap (run_after 0) ends.parts ∙ run_append 0 ends.before ends.line ∙ ap (λ n. run_after n ends.line) (at_start ends.before ends.whole) ∙ whole ∙ sym ends.length_is

short_by_length : (xs : List ℕ) → is_long xs ≡ false → length xs ≤ MOST_LINE_BYTES + 1
short_by_length xs short = by_test (nat_lt (MOST_LINE_BYTES + 1) (length xs)) refl
  where
    by_test : (b : Bool) → nat_lt (MOST_LINE_BYTES + 1) (length xs) ≡ b → length xs ≤ MOST_LINE_BYTES + 1
    by_test true is =
        let many : MOST_LINE_BYTES + 1 < length xs = grind (arith, nat_tests) in
        let long = long_by_many xs many in
        absurd (cc)
    by_test false is = grind (arith, nat_tests)

-- lines that are at most a byte too long
abbrev Fits : List FileLine → Type 0
Fits lines = AllByRecursion (λ (l : FileLine). length l.bytes ≤ MOST_LINE_BYTES + 1) lines

-- the same where the first of them goes on after so many bytes
abbrev FitsAfter : ℕ → List FileLine → Type 0
FitsAfter run [] = run ≤ MOST_LINE_BYTES + 1
FitsAfter run (line ∷ lines) = (run + length line.bytes ≤ MOST_LINE_BYTES + 1) × Fits lines

fits_at_first : (lines : List FileLine) → Fits lines → FitsAfter 0 lines
fits_at_first [] fits = omega arith
fits_at_first (line ∷ lines) fits = let first = fits.0 in (omega (arith, first), fits.1)

in_line : (run byte : ℕ) (lines : List FileLine) → FitsAfter run (in_front byte lines) → FitsAfter (run + 1) lines
in_line run byte [] fits = fits.0
in_line run byte (line ∷ lines) fits = let first = fits.0 in (omega (arith, first), fits.1)

run_fits : (run : ℕ) (bytes : List ℕ) → FitsAfter run (lines_in bytes) → run_after run bytes ≤ MOST_LINE_BYTES + 1
run_fits run [] fits = fits
run_fits run (byte ∷ bytes) fits = by_end (byte == 10) (λ n. run_fits n bytes) fits
  where
    by_end : (b : Bool) → ((n : ℕ) → FitsAfter n (lines_in bytes) → run_after n bytes ≤ MOST_LINE_BYTES + 1)
        → FitsAfter run (if b then line_with [] true ∷ lines_in bytes else in_front byte (lines_in bytes))
        → run_after (if b then 0 else run + 1) bytes ≤ MOST_LINE_BYTES + 1
    by_end true later fit = later 0 (fits_at_first (lines_in bytes) fit.1)
    by_end false later fit = later (run + 1) (in_line run byte (lines_in bytes) fit)

lines_fit : (file number : ℕ) (lines : List FileLine) → AreShort (numbered file number lines) → Fits lines
lines_fit file number [] short = tt
lines_fit file number (line ∷ lines) short = (short_by_length line.bytes short.0, lines_fit file (number + 1) lines short.1)

-- a log whose lines are short is not cut
pub never_cut : (file number : ℕ) (bytes : List ℕ) (many : ℕ) → AreShort (numbered file number (lines_in bytes)) → EndsInLine bytes many → MOST_LINE_BYTES + 1 < many → ⊥
never_cut file number bytes many short ends long =
    let few = run_fits 0 bytes (fits_at_first (lines_in bytes) (lines_fit file number (lines_in bytes) short)) in
    let is = run_of bytes many ends in
    omega (arith, few, is, long)
