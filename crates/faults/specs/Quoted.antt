-- How text is told that came from outside: it may have bytes that end a line or move a cursor.
use Rattle.std.specs.Prelude.{ℕ, ◌-◌, false, List, [], ◌∷◌, ◌++◌, codes, length, replicate, take, nat_le, nat_lt, ◌==◌, ◌&&◌, ◌||◌, if◌then◌else◌}
use Rattle.std.specs.List.{flat_map}
use Rattle.std.specs.Fmt.{radix_digits}
use Rattle.faults.specs.declared.quoted.TheConstants.{MOST_TOLD}

-- a byte in two hexadecimal digits, in lower case
abbrev pub hex_2 : ℕ → List ℕ
hex_2 byte = let digits = radix_digits 16 false byte in replicate (2 - length digits) 48 ++ digits

-- the end of a line or a tab after a backslash, and any other byte by its number
abbrev pub other_escape : ℕ → List ℕ
other_escape byte = if byte == 10 then codes "\\n"
    else (if byte == 13 then codes "\\r" else (if byte == 9 then codes "\\t" else codes "\\x" ++ hex_2 byte))

-- a byte as it is told: ASCII that prints stands as it is, but a quote and a backslash come after a backslash
abbrev pub escape : ℕ → List ℕ
escape byte = if byte == 34 || byte == 92 then 92 ∷ byte ∷ [] else (if nat_le 32 byte && nat_le byte 126 then byte ∷ [] else other_escape byte)

-- bytes with escapes
abbrev pub escaped : List ℕ → List ℕ
escaped bytes = flat_map escape bytes

-- bytes in quotes: the first of them, and three dots where there are more
abbrev pub quoted : List ℕ → List ℕ
quoted bytes =
    if nat_lt MOST_TOLD (length bytes) then codes "\"" ++ (escaped (take MOST_TOLD bytes) ++ codes "\"...")
    else codes "\"" ++ (escaped (take MOST_TOLD bytes) ++ codes "\"")

-- the words for an object that has a member of this name twice
abbrev pub repeated_words : List ℕ → List ℕ
repeated_words name = codes "member " ++ (quoted name ++ codes " is written twice")
