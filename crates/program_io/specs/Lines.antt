-- Lines of a reader.
use Rattle.std.specs.Prelude.{◌≡◌, ◌⊎◌, ℕ, nat_lt, ◌==◌, ◌&&◌, ◌||◌, not, Bool, false, List, [], ◌∷◌, ◌++◌, filter, length, Option, IfSome}
use Rattle.std.specs.List.{list_all}
use Rattle.std.specs.Io.{StopsAt}
use Rattle.std.specs.Io.BufRead.{strip_last, take_through}
use Rattle.std.specs.Io.KnownBytes.{Consumes, IsAtEnd}
use Rattle.program_io.specs.declared.line.TheConstants.{MOST_LINE_BYTES}

-- a line has nothing but spaces: spaces, tabs and ends of lines
abbrev pub is_space : ℕ → Bool
is_space byte = byte == 32 || byte == 9 || byte == 13 || byte == 10

abbrev pub is_blank : List ℕ → Bool
is_blank line = list_all is_space line

-- a line has more bytes than a line may have, beside its end
abbrev pub is_long : List ℕ → Bool
is_long line = nat_lt MOST_LINE_BYTES (length (strip_last 10 line))

-- a line that is skipped
abbrev pub is_skipped : List ℕ → Bool
is_skipped line = is_blank line && not (is_long line)

-- a line was read, with its end: byte 10 is at most its last byte; where the reader's bytes are known, the line is those up to and including the
-- first byte 10, or all of them
pub record IsLine (before after : Option (List ℕ)) (line : List ℕ) : Type 0 where
  pub one_end : StopsAt line 10
  pub through : IfSome before (λ bytes. line ≡ take_through 10 bytes)
  pub gave : Consumes before after line

-- these lines were read, one after the other
abbrev pub AreLines : Option (List ℕ) → Option (List ℕ) → List (List ℕ) → Type 0
AreLines before after [] = before ≡ after
AreLines before after (line ∷ lines) = (middle : Option (List ℕ)) × IsLine before middle line × AreLines middle after lines

-- those that are not skipped
abbrev pub without_skipped : List (List ℕ) → List (List ℕ)
without_skipped lines = filter (λ line. not (is_skipped line)) lines

-- lines were read that are skipped, and then a line that is not
pub record IsNextLine (before after : Option (List ℕ)) (line : List ℕ) : Type 0 where
  pub blanks : List (List ℕ)
  pub blank : without_skipped blanks ≡ []
  pub reads : AreLines before after (blanks ++ line ∷ [])
  pub more : is_skipped line ≡ false

-- lines were read that are skipped, and then the reader was at its end
pub record HasNoLine (before : Option (List ℕ)) : Type 0 where
  pub blanks : List (List ℕ)
  pub blank : without_skipped blanks ≡ []
  pub at_end : Option (List ℕ)
  pub reads : AreLines before at_end blanks
  pub ended : IsAtEnd at_end

-- the next line that is not skipped, or an empty one where there is none
abbrev pub IsNext : Option (List ℕ) → Option (List ℕ) → List ℕ → Type 0
IsNext before after line = IsNextLine before after line ⊎ ((line ≡ []) × HasNoLine before)
