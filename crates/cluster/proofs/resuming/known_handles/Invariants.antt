use Rattle.std.proofs.Common.{◌≡◌, take}
use Rattle.std.specs.List.{list_any}
use Rattle.indexmap.specs.IndexSet.{contains}
use Rattle.key_handle.specs.declared.handle.KeyHandle.{KeyHandle}
use Rattle.cluster.specs.Made.{same_handle}
use Rattle.cluster.proofs.resuming.known_handles.Given as goal

-- the handles so far are known
abbrev pub invariant-loop-handle : goal.invariant-loop-handle
invariant-loop-handle l = (handle : KeyHandle) → contains same_handle l.known handle ≡ list_any (same_handle handle) (take l.handle-index l.handles)
