-- Which calls take memory.
use Rattle.std.specs.Prelude.{Bool, true, false}
use Rattle.clerk.specs.declared.call.ClerkCall.{ClerkCall}
use Rattle.clerk.specs.declared.call.ClerkCall.TheVariants.{Learn, Forget}

-- a call of a clerk may be out of memory
abbrev pub takes_memory : ClerkCall → Bool
takes_memory (Learn slicing) = true
takes_memory Forget = false
