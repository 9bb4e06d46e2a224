-- The hexadecimal text of a token's bytes is read as the token.
use Rattle.std.proofs.Common.{◌≡◌, ℕ, zero, suc, ◌+◌, ◌/◌, ◌%◌, ◌<◌, List, [], ◌∷◌, ◌++◌, length, take, drop, slice_index, Ok, refl, sym, ap, ◌∙◌, append_assoc, arith}
use Rattle.std.specs.Int.{w32, w64, byte_at, bytes_high_first, to_be_bytes}
use Rattle.std.proofs.lemmas.List.{length-append}
use Rattle.std.proofs.lemmas.Nat.{from_be_bytes-to_be_bytes_4, from_be_bytes-to_be_bytes_8}
use Rattle.hex.specs.Hex.{IsBytes, decode_sized, encode_lower, encode_with, lower_digits}
use Rattle.hex.proofs.HexLemmas.{decode_sized-encode_lower, length-encode_with}
use Rattle.fence.specs.declared.token.Token.{Token}
use Rattle.fence.specs.Tokens.{Fits, bytes_of}
use Rattle.log_line.specs.Writes.{token_of_text}

small : (k n : ℕ) → byte_at k n < 256
small zero n = omega arith
small (suc k) n = omega arith

bytes_small : (k n : ℕ) → IsBytes (bytes_high_first k n)
bytes_small zero n zero = omega arith
bytes_small zero n (suc i) = omega arith
bytes_small (suc k) n zero = small k n
bytes_small (suc k) n (suc i) = bytes_small k n i

encode_append : (xs ys : List ℕ) → encode_lower (xs ++ ys) ≡ encode_lower xs ++ encode_lower ys
unfolding encode_with
encode_append [] ys = refl
encode_append (x ∷ xs) ys =
    ap (λ (rest : List ℕ). slice_index lower_digits (x / 16) ∷ slice_index lower_digits (x % 16) ∷ rest) (encode_append xs ys)

front : (n : ℕ) (xs ys : List ℕ) → length xs ≡ n → take n (xs ++ ys) ≡ xs
front zero [] ys is = refl
front (suc n) [] ys is = absurd (omega (arith, is))
front zero (x ∷ xs) ys is = absurd (omega (arith, is))
front (suc n) (x ∷ xs) ys is = ap (λ (rest : List ℕ). x ∷ rest) (front n xs ys (omega (arith, is)))

back : (n : ℕ) (xs ys : List ℕ) → length xs ≡ n → drop n (xs ++ ys) ≡ ys
back zero [] ys is = refl
back (suc n) [] ys is = absurd (omega (arith, is))
back zero (x ∷ xs) ys is = absurd (omega (arith, is))
back (suc n) (x ∷ xs) ys is = back n xs ys (omega (arith, is))

module _ (first middle last : List ℕ) (four : length first ≡ 4) (eight : length middle ≡ 8) (others : length last ≡ 4) where
  abbrev text : List ℕ
  text = encode_lower first ++ (encode_lower middle ++ encode_lower last)

  first_long : length (encode_lower first) ≡ 8
  first_long = let l = length-encode_with lower_digits first in omega (arith, l, four)

  middle_long : length (encode_lower middle) ≡ 16
  middle_long = let l = length-encode_with lower_digits middle in omega (arith, l, eight)

  last_long : length (encode_lower last) ≡ 8
  last_long = let l = length-encode_with lower_digits last in omega (arith, l, others)

  pub text_long : length text ≡ 32
  text_long =
      let all = length-append (encode_lower first) (encode_lower middle ++ encode_lower last) in
      let end = length-append (encode_lower middle) (encode_lower last) in
      omega (arith, all, end, first_long, middle_long, last_long)

  pub text_is : encode_lower (first ++ (middle ++ last)) ≡ text
  text_is = encode_append first (middle ++ last) ∙ ap (λ (rest : List ℕ). encode_lower first ++ rest) (encode_append middle last)

  pub first_read : IsBytes first → decode_sized (take 8 text) 4 ≡ Ok first
  first_read bytes = ap (λ (t : List ℕ). decode_sized t 4) (front 8 (encode_lower first) _ first_long) ∙ decode_sized-encode_lower first 4 four bytes

  pub middle_read : IsBytes middle → decode_sized (take 16 (drop 8 text)) 8 ≡ Ok middle
  middle_read bytes =
      ap (λ (t : List ℕ). decode_sized (take 16 t) 8) (back 8 (encode_lower first) _ first_long)
      ∙ ap (λ (t : List ℕ). decode_sized t 8) (front 16 (encode_lower middle) _ middle_long) ∙ decode_sized-encode_lower middle 8 eight bytes

  pub last_read : IsBytes last → decode_sized (drop 24 text) 4 ≡ Ok last
  last_read bytes =
      let long = length-append (encode_lower first) (encode_lower middle) in
      ap (λ (t : List ℕ). decode_sized (drop 24 t) 4) (sym (append_assoc (encode_lower first) (encode_lower middle) (encode_lower last)))
      ∙ ap (λ (t : List ℕ). decode_sized t 4) (back 24 (encode_lower first ++ encode_lower middle) (encode_lower last) (omega (arith, long, first_long, middle_long)))
      ∙ decode_sized-encode_lower last 4 others bytes

module _ (token : Token) (fits : Fits token) where
  abbrev epoch : List ℕ
  epoch = to_be_bytes w32 token.epoch

  abbrev generation : List ℕ
  generation = to_be_bytes w64 token.generation

  abbrev life : List ℕ
  life = to_be_bytes w32 token.life

  pub read_back : token_of_text (encode_lower (bytes_of token)) ≡ Ok token
  unfolding token_of_text
  read_back =
      rw (
        text_is epoch generation life,
        text_long epoch generation life refl refl refl,
        first_read epoch generation life refl refl refl (bytes_small 4 token.epoch),
        middle_read epoch generation life refl refl refl (bytes_small 8 token.generation),
        last_read epoch generation life refl refl refl (bytes_small 4 token.life),
        from_be_bytes-to_be_bytes_4 token.epoch fits.epoch,
        from_be_bytes-to_be_bytes_8 token.generation fits.generation,
        from_be_bytes-to_be_bytes_4 token.life fits.life,
      ) refl
