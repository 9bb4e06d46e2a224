-- Calls of a clerk as JSON.
use Rattle.std.specs.Prelude.{List, [], ◌∷◌, ◌++◌, codes, Result, Ok, ℕ}
use Rattle.serde_json.specs.Data.{Data}
use Rattle.clerk.specs.declared.call.ClerkCall.{ClerkCall}
use Rattle.clerk.specs.declared.call.ClerkCall.TheVariants.{Learn, Forget}
use Rattle.program_io.specs.Reading.{◌>>=◌, ◌>>◌}
use Rattle.program_io.specs.Members.{exactly}
use Rattle.wire.specs.declared.fault.DecodeRefusal.{DecodeRefusal}
use Rattle.wire.specs.declared.numerals.Numerals.{Numerals}
use Rattle.wire.specs.Assignments.{slicing_in}
use Rattle.wire.specs.Refusals.{or_wrong}

-- a `learn` has an assignment
unfoldable pub learn_of : List (List ℕ) → Numerals → Data → Result ClerkCall DecodeRefusal
learn_of beside numerals d = do
  or_wrong (exactly (beside ++ codes "do" ∷ codes "generation" ∷ codes "slices" ∷ []) d)
  slicing ← slicing_in numerals d
  Ok (Learn slicing)

-- a `forget` has nothing more
unfoldable pub forget_of : List (List ℕ) → Data → Result ClerkCall DecodeRefusal
forget_of beside d = do
  or_wrong (exactly (beside ++ codes "do" ∷ []) d)
  Ok Forget

-- the calls of a clerk, each by its name and its reader
abbrev pub clerk_call_kinds : List (List ℕ) → Numerals → List (List ℕ × (Data → Result ClerkCall DecodeRefusal))
clerk_call_kinds beside numerals =
    (codes "learn", learn_of beside numerals) ∷
    (codes "forget", forget_of beside) ∷ []
