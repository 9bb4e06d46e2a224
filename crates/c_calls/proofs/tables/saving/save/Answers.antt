use Rattle.std.proofs.Common.{◌≤◌, ℕ, List, [], ◌∷◌, length, codes, arith}
use Rattle.grants.specs.declared.kept.Kept.{Kept}
use Rattle.wire.specs.Kept.{kept_of}
use Rattle.c_calls.specs.declared.answer.Answer.{Answer}
use Rattle.c_calls.specs.Outputs.{Output}
use Rattle.c_calls.specs.Reading.{IsReadFrom}
use Rattle.c_calls.specs.declared.tables.saving.Ahead.{Ahead}
use Rattle.c_calls.specs.tables.Saving.{IsSaved, IsSavedFrom}
use Rattle.c_calls.proofs.tables.saving.save.Goals as goal

-- bytes that are there are read
some_bytes : (job : List ℕ) (ahead : Ahead) (table : Kept) (bytes : List ℕ) (was now : Output ℕ) (answer : Answer) → 1 ≤ length bytes
    → IsReadFrom job (codes "kept") kept_of bytes (IsSavedFrom job ahead table was now answer) → IsSaved job ahead table bytes was now answer
some_bytes job ahead table [] was now answer some read = absurd (omega (arith, some))
some_bytes job ahead table (byte ∷ bytes) was now answer some read = read

pub returns-in-len1-up : goal.returns-in-len1-up
returns-in-len1-up c = some_bytes _ _ _ _ _ _ _ c.in-len1-up.len_at_least c.save_over_bytes.ensures
