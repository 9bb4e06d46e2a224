-- No message has an end of a line in it.
use Rattle.std.proofs.Common.{◌≡◌, ℕ, zero, suc, ◌/◌, ◌%◌, ◌==◌, ltb, pos, negsuc, List, [], ◌∷◌, ◌++◌, Bool, true, false, cond, Some, decimal, refl, arith}
use Rattle.std.specs.Fmt.{digits, digits_onto, digit_glyph}
use Rattle.std.specs.List.{AllByRecursion, flat_map}
use Rattle.std.specs.Char.{digit_char}
use Rattle.std.proofs.lemmas.Bool.Decides.{nat_tests}
use Rattle.json.specs.Print.{escape_byte, escape_letter, quoted}
use Rattle.serde_json.specs.Data.{Num, unsigned, negative, float, Data, null, boolean, number, string, array, object, Items, no_items, item, Members, no_members, member}
use Rattle.serde_json.specs.Written.{number_text, comma_if, compact_text, items_text, members_text}
use Rattle.wire.specs.Messages.{message_data, message_text}
use Rattle.snapshot_text.specs.Lines.{first_line}

-- bytes without an end of a line
abbrev pub IsUnended : List ℕ → Type 0
IsUnended bytes = AllByRecursion (λ byte. (byte == 10) ≡ false) bytes

unended_append : (xs ys : List ℕ) → IsUnended xs → IsUnended ys → IsUnended (xs ++ ys)
unended_append [] ys xs-is ys-is = ys-is
unended_append (x ∷ xs) ys xs-is ys-is = (xs-is.0, unended_append xs ys xs-is.1 ys-is)

either : (b : Bool) (xs ys : List ℕ) → (b ≡ true → IsUnended xs) → (b ≡ false → IsUnended ys) → IsUnended (cond b xs ys)
either true xs ys xs-is ys-is = xs-is refl
either false xs ys xs-is ys-is = ys-is refl

letter : (x : ℕ) → ltb 0 (escape_letter x) ≡ true → (escape_letter x == 10) ≡ false
letter x some = grind (arith, nat_tests)

plain : (x : ℕ) → ltb 0 (escape_letter x) ≡ false → (x == 10) ≡ false
plain x none = grind (arith, nat_tests)

hex : (d : ℕ) → (digit_char d == 10) ≡ false
hex d = grind (arith, nat_tests)

byte_unended : (x : ℕ) → IsUnended (escape_byte x)
unfolding escape_byte
byte_unended x = either (ltb 0 (escape_letter x)) (92 ∷ escape_letter x ∷ []) _
    (λ some. (refl, (letter x some, tt)))
    (λ none. either (ltb x 32) (92 ∷ 117 ∷ 48 ∷ 48 ∷ digit_char (x / 16) ∷ digit_char (x % 16) ∷ []) (x ∷ [])
    (λ low. (refl, (refl, (refl, (refl, (hex (x / 16), (hex (x % 16), tt)))))))
    (λ high. (plain x none, tt)))

escape_unended : (s : List ℕ) → IsUnended (flat_map escape_byte s)
escape_unended [] = tt
escape_unended (x ∷ s) = unended_append (escape_byte x) (flat_map escape_byte s) (byte_unended x) (escape_unended s)

quoted_unended : (s : List ℕ) → IsUnended (quoted s)
quoted_unended s = (refl, unended_append (flat_map escape_byte s) (34 ∷ []) (escape_unended s) (refl, tt))

glyph : (d : ℕ) → (digit_glyph false d == 10) ≡ false
glyph d = grind (arith, nat_tests)

onto_unended : (k n : ℕ) (acc : List ℕ) → IsUnended acc → IsUnended (digits_onto k 10 false n acc)
onto_unended zero n acc acc-is = acc-is
onto_unended (suc k) n acc acc-is =
    let d = digit_glyph false (n % 10) in
    let here : IsUnended (d ∷ acc) = (glyph (n % 10), acc-is) in
    either (n / 10 == 0) (d ∷ acc) (digits_onto k 10 false (n / 10) (d ∷ acc)) (λ _. here) (λ _. onto_unended k (n / 10) (d ∷ acc) here)

decimal_unended : (n : ℕ) → IsUnended (decimal n)
unfolding digits
decimal_unended n = onto_unended 64 n [] tt

number_unended : (n : Num) → IsUnended (number_text n)
number_unended (unsigned n) = decimal_unended n
number_unended (negative (pos n)) = decimal_unended n
number_unended (negative (negsuc n)) = (refl, decimal_unended (suc n))
number_unended (float x) = tt

comma_unended : (later : Bool) → IsUnended (comma_if later)
comma_unended true = (refl, tt)
comma_unended false = tt

mutual
  text_unended : (d : Data) → IsUnended (compact_text d)
  text_unended null = (refl, (refl, (refl, (refl, tt))))
  text_unended (boolean true) = (refl, (refl, (refl, (refl, tt))))
  text_unended (boolean false) = (refl, (refl, (refl, (refl, (refl, tt)))))
  text_unended (number n) = number_unended n
  text_unended (string s) = quoted_unended s
  text_unended (array ds) = (refl, items_unended false ds)
  text_unended (object ms) = (refl, members_unended false ms)

  items_unended : (later : Bool) (ds : Items) → IsUnended (items_text later ds)
  items_unended later no_items = (refl, tt)
  items_unended later (item d ds) =
      unended_append (comma_if later) (compact_text d ++ items_text true ds) (comma_unended later)
      (unended_append (compact_text d) (items_text true ds) (text_unended d) (items_unended true ds))

  members_unended : (later : Bool) (ms : Members) → IsUnended (members_text later ms)
  members_unended later no_members = (refl, tt)
  members_unended later (member k d ms) =
      unended_append (comma_if later) (quoted k ++ 58 ∷ (compact_text d ++ members_text true ms)) (comma_unended later)
      (unended_append (quoted k) (58 ∷ (compact_text d ++ members_text true ms)) (quoted_unended k)
      (refl, unended_append (compact_text d) (members_text true ms) (text_unended d) (members_unended true ms)))

cut_here : (line rest : List ℕ) → IsUnended line → first_line (line ++ 10 ∷ rest) ≡ Some (line, rest)
cut_here [] rest is = refl
cut_here (byte ∷ line) rest is = rw (is.0, cut_here line rest is.1) refl

-- a message is the first line of what begins with it and an end of a line
pub first_of_message : (job name : List ℕ) (d : Data) (rest : List ℕ) → first_line (message_text job name d ++ 10 ∷ rest) ≡ Some (message_text job name d, rest)
first_of_message job name d rest = cut_here (message_text job name d) rest (text_unended (message_data job name d))
