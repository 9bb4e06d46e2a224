-- A call on what stands in a place: what it left there, of the same job, or that another thing stands there, and then nothing changed.
use Rattle.std.specs.Prelude.{◌≡◌, ℕ, ℤ, List, Option, Some}
use Rattle.assignment.specs.Slices.{Slicing}
use Rattle.slicelet.specs.States.{SliceletState}
use Rattle.lease_table.specs.Tables.{Standing}
use Rattle.assigner.specs.Terms.{Keeping}
use Rattle.c_calls.specs.declared.answer.Answer.TheVariants.{OtherPlace}
use Rattle.c_calls.specs.AnswerNumbers.{answer_number}
use Rattle.hourstable_c.specs.declared.held.Held.{Held}
use Rattle.hourstable_c.specs.declared.held.Held.TheVariants as held

-- nothing of the kind stands there, or there is no place
abbrev pub IsOtherPlace : Option Held → Option Held → Type 0 → ℤ → Type 0
IsOtherPlace was now same number = (number ≡ answer_number OtherPlace) × (now ≡ was) × same

abbrev pub OnSlicelet : Option Held → Option Held → Type 0 → ℤ → (List ℕ → SliceletState → SliceletState → Type 0) → Type 0
OnSlicelet (Some (held.Slicelet job old)) (Some (held.Slicelet still new)) same number does = (still ≡ job) × does job old new
OnSlicelet (Some (held.Slicelet job old)) now same number does = ⊥
OnSlicelet was now same number does = IsOtherPlace was now same number

abbrev pub OnClerk : Option Held → Option Held → Type 0 → ℤ → (List ℕ → Option Slicing → Option Slicing → Type 0) → Type 0
OnClerk (Some (held.Clerk job old)) (Some (held.Clerk still new)) same number does = (still ≡ job) × does job old new
OnClerk (Some (held.Clerk job old)) now same number does = ⊥
OnClerk was now same number does = IsOtherPlace was now same number

abbrev pub OnTable : Option Held → Option Held → Type 0 → ℤ → (List ℕ → Standing → Standing → Type 0) → Type 0
OnTable (Some (held.Table job old)) (Some (held.Table still new)) same number does = (still ≡ job) × does job old new
OnTable (Some (held.Table job old)) now same number does = ⊥
OnTable was now same number does = IsOtherPlace was now same number

abbrev pub OnAssigner : Option Held → Option Held → Type 0 → ℤ → (Keeping → Keeping → Type 0) → Type 0
OnAssigner (Some (held.Assigner old)) (Some (held.Assigner new)) same number does = does old new
OnAssigner (Some (held.Assigner old)) now same number does = ⊥
OnAssigner was now same number does = IsOtherPlace was now same number

abbrev pub OnLoadBook : Option Held → Option Held → Type 0 → ℤ → (List ℕ → List ℕ → List ℕ → Type 0) → Type 0
OnLoadBook (Some (held.LoadBook job old)) (Some (held.LoadBook still new)) same number does = (still ≡ job) × does job old new
OnLoadBook (Some (held.LoadBook job old)) now same number does = ⊥
OnLoadBook was now same number does = IsOtherPlace was now same number
