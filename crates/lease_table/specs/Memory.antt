-- Which calls take memory.
use Rattle.std.specs.Prelude.{Bool, true, false}
use Rattle.grants.specs.declared.table_call.TableCall.{TableCall}
use Rattle.grants.specs.declared.table_call.TableCall.TheVariants.{Propose, Grant}

-- a call of the table may be out of memory
abbrev pub takes_memory : TableCall → Bool
takes_memory (Propose number slicing at) = true
takes_memory (Grant task life at) = true
takes_memory _ = false
