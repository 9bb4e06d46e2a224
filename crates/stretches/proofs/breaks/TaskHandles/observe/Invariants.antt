use Rattle.std.proofs.Common.{◌≡◌, List, length, map}
use Rattle.grants.specs.declared.slicelet_call.SliceletCall.{SliceletCall}
use Rattle.slicelet.specs.Accepted.{StandsAfter}
use Rattle.stretches.specs.Stretches.{IsNext}
use Rattle.stretches.specs.Tasks.{Each}
use Rattle.stretches.specs.Breaks.{AreBreaks, named}
use Rattle.stretches.proofs.Breaking.{IsSeen}
use Rattle.stretches.proofs.breaks.TaskHandles.observe.Given as goal

-- the first handles are as they are after the call
abbrev pub invariant-loop-place : goal.invariant-loop-place
invariant-loop-place l = record {
  process : l.self.process ≡ l.initial.self.process;
  count : length l.self.handles.items ≡ length l.initial.self.handles.items;
  named : map named l.self.handles.items ≡ map named l.initial.self.handles.items;
  seen : (before after : List SliceletCall) → AreBreaks l.slicelet.task before l.initial.self → StandsAfter after l.slicelet → IsNext before after
      → Each (IsSeen l.slicelet.task before after l.place) (length l.self.handles.items) l.self.handles.items;
}
