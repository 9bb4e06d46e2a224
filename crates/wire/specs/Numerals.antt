-- Numbers that may be 2^53 or more, as JSON: a reader of JSON may round such a number, but not a text.
use Rattle.std.specs.Prelude.{ℕ, ◌^◌, ◌&&◌, List, Result, Ok, nat_lt, decimal}
use Rattle.std.specs.Option.{ok_or}
use Rattle.std.specs.Str.{bytes_eq}
use Rattle.std.specs.Str.Parse.{digits_value}
use Rattle.serde_json.specs.Data.{Data, string}
use Rattle.serde_json.specs.Find.{as_str}
use Rattle.program_io.specs.declared.fault.WrongForm.{WrongForm}
use Rattle.program_io.specs.Reading.{◌>>=◌, ◌>>◌, check, or_else}
use Rattle.program_io.specs.Members.{wrong, member_at, number_of, pair_of}
use Rattle.wire.specs.declared.numerals.Numerals.{Numerals}
use Rattle.wire.specs.declared.numerals.Numerals.TheVariants.{Bare, Quoted, Either}
use Rattle.wire.specs.Objects.{number_data}

-- a number, written as a JSON number or as the text of its decimal digits
abbrev pub numeral_data : Numerals → ℕ → Data
numeral_data Bare n = number_data n
numeral_data Quoted n = string (decimal n)
numeral_data Either n = number_data n

-- the number below 2^64 whose decimal form, without sign and leading zero, is this text
unfoldable pub number_in_digits : List ℕ → Result ℕ WrongForm
number_in_digits text = do
  check (nat_lt (digits_value 10 text) (2 ^ 64) && bytes_eq (decimal (digits_value 10 text)) text) wrong
  Ok (digits_value 10 text)

-- a text of decimal digits, as a number
abbrev pub quoted_of : Data → Result ℕ WrongForm
quoted_of d = ok_or (as_str d) wrong >>= number_in_digits

-- a number, written so
abbrev pub numeral_of : Numerals → Data → Result ℕ WrongForm
numeral_of Bare d = number_of d
numeral_of Quoted d = quoted_of d
numeral_of Either d = or_else (number_of d) (quoted_of d)

-- the member of this name, as a number that is written so
abbrev pub numeral_at : Numerals → List ℕ → Data → Result ℕ WrongForm
numeral_at numerals name d = member_at name d >>= numeral_of numerals

-- two numbers, written as `[first, second]`
unfoldable pub two_numerals_of : Numerals → Data → Result (ℕ × ℕ) WrongForm
two_numerals_of numerals d = do
  pair ← pair_of d
  first ← numeral_of numerals pair.0
  second ← numeral_of numerals pair.1
  Ok (first, second)
