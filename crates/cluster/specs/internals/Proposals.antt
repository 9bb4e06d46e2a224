-- The proposals of a table.
use Rattle.std.specs.Prelude.{ℕ, nat_le, Option, None, Bool, List, [], ◌∷◌, ◌++◌, is_ok, if◌then◌else◌}
use Rattle.assignment.specs.Slices.{Slicing}
use Rattle.grants.specs.declared.table_call.TableCall.{TableCall}
use Rattle.grants.specs.declared.table_call.TableCall.TheVariants as call
use Rattle.lease_table.specs.Tables.{Standing}
use Rattle.grants.specs.Assignments.{generation_of}
use Rattle.lease_table.specs.Calls.{AnsweredTableCall}
use Rattle.cluster.specs.Numbers.{kept_with_number}

-- the assignments of the accepted proposals, in order
abbrev pub proposals_with : TableCall → Bool → List Slicing → List Slicing
proposals_with (call.Propose number slicing at) accepted before = if accepted then before ++ slicing ∷ [] else before
proposals_with _ accepted before = before

abbrev pub proposals_in : List AnsweredTableCall → List Slicing
proposals_in [] = []
proposals_in (e ∷ past) = proposals_with e.call (is_ok e.answer) (proposals_in past)

-- the committed assignment of a generation: that of the proposal of this number, if it is kept
abbrev pub published_of : ℕ → Standing → ℕ → List Slicing → Option Slicing
published_of generation t before kept = if nat_le generation (generation_of t.committed) then kept_with_number generation before kept else None
