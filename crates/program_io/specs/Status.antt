-- Why a program does not answer, and the status that it exits with.
use Rattle.std.specs.Prelude.{ℕ, Result, Ok, Err, ⊤}
use Rattle.program_io.specs.declared.fault.ReadError.{ReadError}
use Rattle.program_io.specs.declared.fault.ReadError.TheVariants as reading
use Rattle.program_io.specs.declared.fault.Fault.{Fault}
use Rattle.program_io.specs.declared.fault.Fault.TheVariants as fault

-- the fault of a program whose input was not read
abbrev pub fault_of_reading : {Refusal : Type 0} → ReadError → Fault Refusal
fault_of_reading reading.Failed = fault.Read
fault_of_reading reading.Memory = fault.Memory

-- the status for a fault: 2 where the input is refused, and else 3
abbrev pub status_of : {Refusal : Type 0} → Fault Refusal → ℕ
status_of (fault.Input refusal) = 2
status_of fault.Read = 3
status_of fault.Write = 3
status_of fault.Memory = 3

-- the same where there may be none: 0 without one
abbrev pub status_after : {Refusal : Type 0} → Result ⊤ (Fault Refusal) → ℕ
status_after (Ok done) = 0
status_after (Err why) = status_of why

-- the input is refused for this, or memory ran out
abbrev pub IsUnread : {Refusal : Type 0} → (Refusal → Type 0) → Fault Refusal → Type 0
IsUnread IsRefused (fault.Input why) = IsRefused why
IsUnread IsRefused fault.Read = ⊥
IsUnread IsRefused fault.Write = ⊥
IsUnread IsRefused fault.Memory = ⊤
