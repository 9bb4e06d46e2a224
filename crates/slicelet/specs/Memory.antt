-- Which calls take memory.
use Rattle.std.specs.Prelude.{Bool, true, false}
use Rattle.grants.specs.declared.slicelet_call.SliceletCall.{SliceletCall}
use Rattle.grants.specs.declared.slicelet_call.SliceletCall.TheVariants.{Start, Hear, Release, Resume}

-- a call of a slicelet may be out of memory
abbrev pub takes_memory : SliceletCall → Bool
takes_memory (Start life at) = false
takes_memory (Hear grant at) = true
takes_memory (Release kind at) = true
takes_memory (Resume life) = false
