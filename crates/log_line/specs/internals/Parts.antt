-- How a reader of a log takes bytes in.
use Rattle.std.specs.Prelude.{◌≡◌, ℕ, ◌+◌, ◌<◌, ◌==◌, ⊤, Bool, false, List, [], ◌∷◌, ◌++◌, length, Option, Some, None}
use Rattle.std.specs.List.{AllByRecursion}
use denote.Ref.{Bor}
use Rattle.log_line.specs.declared.lines.FirstPart.{FirstPart}
use Rattle.log_line.specs.declared.log_reader.LogReader.{LogReader}
use Rattle.log_line.specs.Files.{PlacedLine, place_at}
use Rattle.log_line.specs.Readers.{AreTaken, IsReading}

-- bytes without an end of a line
abbrev pub IsUnended : List ℕ → Type 0
IsUnended bytes = AllByRecursion (λ b. (b == 10) ≡ false) bytes

abbrev pub IsFollowedBy : List ℕ → List ℕ → Option (Bor (List ℕ)) → Type 0
IsFollowedBy bytes part None = bytes ≡ part
IsFollowedBy bytes part (Some rest) = bytes ≡ part ++ 10 ∷ rest.now

-- bytes up to the first end of a line, and those after it
pub record IsFirstPart (bytes : List ℕ) (first : FirstPart) : Type 0 where
  pub unended : IsUnended first.part.now
  pub whole : IsFollowedBy bytes first.part.now first.rest

-- the line whose bytes were read
abbrev pub line_read : LogReader → Bool → PlacedLine
line_read reader ended = record { place = place_at reader.file reader.number; bytes = reader.part.items; ended = ended }

-- a reader takes this line, and begins the next one
pub record EndsLine (before : LogReader) (ended : Bool) (after : LogReader) : Type 0 where
  pub taken : (lines : List PlacedLine) → AreTaken lines before.taken → AreTaken (lines ++ line_read before ended ∷ []) after.taken
  pub part : after.part.items ≡ []
  pub file : after.file ≡ before.file
  pub number : after.number ≡ before.number + 1

-- what is left of bytes is less
abbrev pub AreFewer : List ℕ → Option (Bor (List ℕ)) → Type 0
AreFewer bytes None = ⊤
AreFewer bytes (Some rest) = length rest.now < length bytes

-- a reader that had read some bytes has read more, up to the first end of a line, or all
abbrev pub IsPartRead : List (List ℕ) → List ℕ → List ℕ → Option (Bor (List ℕ)) → LogReader → Type 0
IsPartRead files before bytes None reader = IsReading files (before ++ bytes) reader
IsPartRead files before bytes (Some rest) reader =
    (part : List ℕ) × (bytes ≡ part ++ 10 ∷ rest.now) × IsReading files (before ++ (part ++ 10 ∷ [])) reader
