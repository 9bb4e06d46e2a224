-- Values that a transport carries.
use Rattle.std.specs.Prelude.{◌≡◌, ◌⊎◌, ◌<◌, ℕ, List, length, Result, Ok, Err}
use Rattle.wire.specs.declared.fault.DecodeError.{DecodeError}
use Rattle.wire.specs.declared.fault.DecodeError.TheVariants as failed
use Rattle.wire.specs.declared.fault.DecodeRefusal.TheVariants.{TooLong}
use Rattle.wire.specs.declared.message.TheConstants.{MOST_BYTES}

-- the value of these bytes arrived, or there are too many of them, or memory ran out
abbrev pub IsCarriedAs : {A : Type 0} → List ℕ → A → Result A DecodeError → Type 0
IsCarriedAs bytes x (Ok y) = y ≡ x
IsCarriedAs bytes x (Err e) = ((e ≡ failed.Refused TooLong) × (MOST_BYTES < length bytes)) ⊎ (e ≡ failed.NoMemory)
