-- What stands at the address that a caller keeps.
use base.Fml.{Fml, feq}
use base.Stored.{Coded}
use denote.RawPtr.{Ptr, null_ptr}
use Rattle.std.specs.Coded.{coded_option}
use Rattle.std.specs.Prelude.{Option, Some, None}
use Rattle.std.specs.Box.Ownership.{box_owns}
use Rattle.std.specs.Global.{Global}
use Rattle.std_heap.specs.contracts.GlobalAllocator.TheImpl.{ghosts}
use Rattle.hourstable_c.specs.contracts.held.Held.{the_row}

-- a value, and the right to free its block; or there is no block, and the address is null
abbrev pub stands_at : Global → Ptr → Option the_row.Denot → Fml
stands_at alloc at (Some held) = box_owns (ghosts.dealloc_token alloc) the_row at held
stands_at alloc at None = feq Ptr at null_ptr

abbrev pub held_coded : Coded (Option the_row.Denot)
held_coded = coded_option the_row.coded
