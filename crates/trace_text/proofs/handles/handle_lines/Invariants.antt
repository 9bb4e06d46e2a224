use Rattle.std.proofs.Common.{◌≡◌, take}
use Rattle.std.specs.List.{flat_map}
use Rattle.trace_text.specs.Ends.{task_handle_lines}
use Rattle.trace_text.proofs.handles.handle_lines.Given as goal

-- the lines so far
abbrev pub invariant-loop-kept : goal.invariant-loop-kept
invariant-loop-kept l = l.text.items ≡ flat_map task_handle_lines (take l.kept-index l.handles.tasks.items)
