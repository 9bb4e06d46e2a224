use Rattle.std.proofs.Common.{◌≡◌, ◌++◌, drop}
use Rattle.trace_text.specs.Ends.{task_stretch_lines}
use Rattle.trace_text.proofs.stretch.task_lines.Given as goal

-- the lines so far, and those that follow
abbrev pub invariant-loop-stretch : goal.invariant-loop-stretch
invariant-loop-stretch l =
    l.text.items ++ task_stretch_lines l.task (drop l.stretch-index l.stretches) ≡ task_stretch_lines l.task l.stretches
