-- Lines that were read, and what is kept of them.
use Rattle.std.specs.Prelude.{◌≡◌, ◌⊎◌, ℕ, nat_eq, Bool, ◌||◌, not, false, List, [], Option, length}
use Rattle.program_io.specs.Lines.{is_blank, is_long, IsLine, IsNextLine, HasNoLine}

-- of a line all is kept, unless it is too long
pub record IsKept (line kept : List ℕ) (long : Bool) : Type 0 where
  pub measured : long ≡ is_long line
  pub whole : long ≡ false → kept ≡ line

-- a line was read
pub record IsLineRead (before after : Option (List ℕ)) (kept : List ℕ) (long : Bool) : Type 0 where
  pub line : List ℕ
  pub read : IsLine before after line
  pub keeps : IsKept line kept long

-- a line that was read is not skipped, or is the end
abbrev pub ends_search : List ℕ → Bool → Bool
ends_search kept long = long || (nat_eq (length kept) 0 || not (is_blank kept))

-- the next line that is not skipped was read, or there is none
abbrev pub IsNextRead : Option (List ℕ) → Option (List ℕ) → List ℕ → Bool → Type 0
IsNextRead before after kept long =
    ((line : List ℕ) × IsNextLine before after line × IsKept line kept long) ⊎ ((kept ≡ []) × (long ≡ false) × HasNoLine before)
