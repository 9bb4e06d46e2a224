-- What is read as a value of a type, or why it is refused.
use Rattle.std.specs.Prelude.{◌≡◌, ⊤, Result, Ok, Err}
use Rattle.machines.specs.declared.machine.Trouble.{Trouble}
use Rattle.machines.specs.declared.machine.Trouble.TheVariants.{Refused, NoMemory}
use Rattle.assignment.specs.declared.error.AssignmentError.{AssignmentError}
use Rattle.slice_ranges.specs.declared.error.RangesError.{RangesError}
use Rattle.program_io.specs.declared.fault.WrongForm.{WrongForm}
use Rattle.program_io.specs.declared.fault.Unread.{Unread}
use Rattle.program_io.specs.declared.fault.Unread.TheVariants as unread
use Rattle.wire.specs.declared.fault.DecodeError.{DecodeError}
use Rattle.wire.specs.declared.fault.DecodeError.TheVariants as failed
use Rattle.wire.specs.declared.fault.DecodeRefusal.{DecodeRefusal}
use Rattle.wire.specs.declared.fault.DecodeRefusal.TheVariants as refusal

-- what is read, or the refusal for its form
abbrev pub or_wrong : {A : Type 0} → Result A WrongForm → Result A DecodeRefusal
or_wrong (Ok x) = Ok x
or_wrong (Err e) = Err refusal.WrongForm

-- why nothing is decoded where a part was not read
abbrev pub failure_of : Unread → DecodeError
failure_of unread.WrongForm = failed.Refused refusal.WrongForm
failure_of unread.Memory = failed.NoMemory

-- what a function that failed says of what is read: nothing, where memory ran out
abbrev pub FailsAs : {A : Type 0} → DecodeError → Result A DecodeRefusal → Type 0
FailsAs (failed.Refused why) read = read ≡ Err why
FailsAs failed.NoMemory read = ⊤

-- what a function returned is what is read, unless memory ran out
abbrev pub Gives : {A : Type 0} → Result A DecodeError → Result A DecodeRefusal → Type 0
Gives (Ok x) read = read ≡ Ok x
Gives (Err e) read = FailsAs e read

-- where memory ran out, this holds
abbrev pub OutOfMemory : {A : Type 0} → Type 0 → Result A DecodeError → Type 0
OutOfMemory Holds (Ok x) = ⊤
OutOfMemory Holds (Err (failed.Refused why)) = ⊤
OutOfMemory Holds (Err failed.NoMemory) = Holds

-- why no set is built: the refusal, or that memory ran out where there is none
abbrev pub ranges_failure : Trouble RangesError → DecodeError
ranges_failure (Refused why) = failed.Refused (refusal.Ranges why)
ranges_failure NoMemory = failed.NoMemory

-- why no assignment is built
abbrev pub slices_failure : Trouble AssignmentError → DecodeError
slices_failure (Refused why) = failed.Refused (refusal.Slices why)
slices_failure NoMemory = failed.NoMemory

-- what a function returned, seen by f, is what is read
abbrev pub IsRead : {X A : Type 0} → (X → A) → Result X DecodeRefusal → Result A DecodeRefusal → Type 0
IsRead f (Ok x) read = read ≡ Ok (f x)
IsRead f (Err e) read = read ≡ Err e
