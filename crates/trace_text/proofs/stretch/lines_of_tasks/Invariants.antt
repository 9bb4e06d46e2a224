use Rattle.std.proofs.Common.{◌≡◌, ◌++◌, drop}
use Rattle.trace_text.specs.Ends.{stretch_lines_after}
use Rattle.trace_text.proofs.stretch.lines_of_tasks.Given as goal

-- the lines so far, and those of the tasks that follow
abbrev pub invariant-loop-i : goal.invariant-loop-i
invariant-loop-i l = l.text.items ++ stretch_lines_after l.i (drop l.i l.tasks) ≡ stretch_lines_after 0 l.tasks
