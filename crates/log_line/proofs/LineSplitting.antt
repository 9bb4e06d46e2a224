-- The lines of bytes and of files, one after another.
use Rattle.std.proofs.Common.{◌≡◌, ◌∙◌, ℕ, ◌+◌, ◌==◌, true, false, List, [], ◌∷◌, ◌++◌, length, refl, sym, ap, append_assoc, arith}
use Rattle.std.proofs.lemmas.List.{append-nil}
use Rattle.log_line.specs.Files.{PlacedLine, line_with, lines_in, lines_from, numbered}
use Rattle.log_line.specs.internals.Parts.{IsUnended}

pub unended_more : (bytes more : List ℕ) → IsUnended bytes → IsUnended more → IsUnended (bytes ++ more)
unended_more [] more is then = then
unended_more (byte ∷ bytes) more is then = (is.0, unended_more bytes more is.1 then)

-- bytes before an end of a line are a line
pub line_ends : (bytes rest : List ℕ) → IsUnended bytes → lines_in (bytes ++ 10 ∷ rest) ≡ line_with bytes true ∷ lines_in rest
line_ends [] rest is = refl
line_ends (byte ∷ bytes) rest is =
    let here : (byte == 10) ≡ false = is.0 in
    let next = line_ends bytes rest is.1 in
    rw (here, next) refl

-- bytes without one are a line, unless there are none
pub line_stays : (byte : ℕ) (bytes : List ℕ) → IsUnended (byte ∷ bytes) → lines_in (byte ∷ bytes) ≡ line_with (byte ∷ bytes) false ∷ []
line_stays byte [] is = let here : (byte == 10) ≡ false = is.0 in rw here refl
line_stays byte (next ∷ bytes) is =
    let here : (byte == 10) ≡ false = is.0 in
    let rest = line_stays next bytes is.1 in
    rw (here, rest) refl

-- one file more
pub files_more : (file : ℕ) (files : List (List ℕ)) (bytes : List ℕ) → lines_from file (files ++ bytes ∷ []) ≡ lines_from file files ++ numbered (file + length files) 1 (lines_in bytes)
files_more file [] bytes =
    let here : file ≡ file + 0 = omega arith in
    append-nil (numbered file 1 (lines_in bytes)) ∙ ap (λ (n : ℕ). numbered n 1 (lines_in bytes)) here
files_more file (first ∷ files) bytes =
    let here : file + 1 + length files ≡ file + length (first ∷ files) = omega arith in
    ap (λ (ls : List PlacedLine). numbered file 1 (lines_in first) ++ ls) (files_more (file + 1) files bytes ∙ ap (λ (n : ℕ). lines_from (file + 1) files ++ numbered n 1 (lines_in bytes)) here)
    ∙ sym (append_assoc (numbered file 1 (lines_in first)) (lines_from (file + 1) files) (numbered (file + length (first ∷ files)) 1 (lines_in bytes)))
