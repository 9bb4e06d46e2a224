-- What the numbers that a caller passes say, where they are within their limits.
use Rattle.std.specs.Prelude.{◌≡◌, ℕ, ◌==◌, nat_lt, Option, Some, None, if◌then◌else◌}
use Rattle.slice_ranges.specs.declared.key.TheConstants.{KEYS}
use Rattle.lease_rule.specs.declared.lease.Kind.{Kind}
use Rattle.lease_rule.specs.declared.lease.Kind.TheVariants.{Guard, Bridge}
use Rattle.assignment.specs.Slices.{is_task}
use Rattle.c_calls.specs.declared.answer.Answer.{Answer}
use Rattle.c_calls.specs.declared.answer.Answer.TheVariants.{WrongForm}

abbrev pub task_of : ℕ → Option ℕ
task_of number = if is_task number then Some number else None

abbrev pub slice_key_of : ℕ → Option ℕ
slice_key_of number = if nat_lt number KEYS then Some number else None

abbrev pub kind_of : ℕ → Option Kind
kind_of number = if number == 1 then Some Guard else (if number == 2 then Some Bridge else None)

-- the number of an assigner or of a life: 0 is none
abbrev pub nonzero : ℕ → Option ℕ
nonzero number = if number == 0 then None else Some number

-- what a call does with what was passed; if that is outside its limits, nothing is changed
abbrev pub InForm : {A : Type 0} → Option A → Type 0 → Answer → (A → Type 0) → Type 0
InForm None same answer does = (answer ≡ WrongForm) × same
InForm (Some value) same answer does = does value
