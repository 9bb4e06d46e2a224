use Rattle.std.proofs.Common.{◌≡◌, take}
use Rattle.std.specs.List.{flat_map}
use Rattle.reason_values.specs.Lines.{line_text}
use Rattle.reason_values.specs.Stretches.{broken_data}
use Rattle.trace_text.proofs.handles.task_lines.Given as goal

-- the lines so far
abbrev pub invariant-loop-given : goal.invariant-loop-given
invariant-loop-given l = l.text.items ≡ flat_map (λ given. line_text (broken_data given)) (take l.given-index l.kept.handles.items)
