-- Where a text is cut at its first end of a line.
use Rattle.std.proofs.Common.{◌≡◌, ℕ, zero, suc, ◌+◌, ◌-◌, ◌<◌, ◌==◌, Bool, true, false, cond, List, [], ◌∷◌, length, take, drop, get_or, Option, Some, None, option_map, refl, sym, ap, add-one, arith}
use Rattle.std.proofs.lemmas.List.{take_rest}
use Rattle.memchr.specs.Find.{IsFirstByte, is_byte}
use Rattle.snapshot_text.specs.Lines.{first_line}

none_here : (text : List ℕ) → ((k : ℕ) → k < length text → (get_or text k 0 == 10) ≡ false) → first_line text ≡ None
none_here [] none = refl
none_here (byte ∷ text) none =
    let here : (byte == 10) ≡ false = none 0 (omega arith) in
    let later = none_here text (λ k below. none (suc k) (omega arith)) in
    rw (here, later) refl

cut_at : (text : List ℕ) (end : ℕ) → end < length text → (get_or text end 0 == 10) ≡ true → ((k : ℕ) → k < end → (get_or text k 0 == 10) ≡ false)
    → first_line text ≡ Some (take end text, drop (suc end) text)
cut_at [] end below here none = absurd (omega arith)
cut_at (byte ∷ text) zero below here none = rw here refl
cut_at (byte ∷ text) (suc end) below here none =
    let first : (byte == 10) ≡ false = none 0 (omega arith) in
    let later = cut_at text end (omega arith) here (λ k low. none (suc k) (omega arith)) in
    rw (first, later) refl

not_true : (b : Bool) → (b ≡ true → ⊥) → b ≡ false
not_true true never = absurd (never refl)
not_true false never = refl

-- a text is cut at its first byte that is an end of a line
pub found : (text : List ℕ) (end : ℕ) → IsFirstByte (is_byte 10) text (Some end) → Some (take end text, take (length text - (end + 1)) (drop (end + 1) text)) ≡ first_line text
found text end is =
    rw (take_rest text (end + 1), add-one) (sym (cut_at text end is.0.high is.1 (λ k low. not_true _ (is.0.before k (omega arith) low))))

-- it is not cut if it has none
pub not_found : (text : List ℕ) → IsFirstByte (is_byte 10) text None → None ≡ first_line text
not_found text none = sym (none_here text (λ k below. not_true _ (none k (omega arith) below)))

shorter_by : (here : Bool) (byte : ℕ) (text line rest : List ℕ) (later : Option (List ℕ × List ℕ)) → ((a b : List ℕ) → later ≡ Some (a, b) → length b < length text)
    → cond {A = Option (List ℕ × List ℕ)} here (Some ([], text)) (option_map (λ cut. (byte ∷ cut.0, cut.1)) later) ≡ Some (line, rest) → length rest < suc (length text)
shorter_by true byte text line rest later less is =
    let parts : ◌≡◌ {A = List ℕ × List ℕ} ([], text) (line, rest) = cc in
    let same : text ≡ rest = ap (λ p. p.1) parts in
    omega (arith, ap length same)
shorter_by false byte text line rest None less is = absurd (cc)
shorter_by false byte text line rest (Some cut) less is =
    let parts : ◌≡◌ {A = List ℕ × List ℕ} (byte ∷ cut.0, cut.1) (line, rest) = cc in
    let same : cut.1 ≡ rest = ap (λ p. p.1) parts in
    let below = less cut.0 cut.1 refl in
    omega (arith, ap length same)

-- what follows a line is shorter than the text
pub shorter : (text line rest : List ℕ) → first_line text ≡ Some (line, rest) → length rest < length text
shorter [] line rest is = absurd (cc)
shorter (byte ∷ text) line rest is = shorter_by (byte == 10) byte text line rest (first_line text) (λ a b. shorter text a b) is
