use Rattle.std.proofs.Common.{◌≡◌, ◌++◌, drop, length}
use Rattle.trace_text.specs.Calls.{call_lines}
use Rattle.trace_text.proofs.call.call_lines.Given as goal

-- the lines so far, and those that follow
abbrev pub invariant-loop-step : goal.invariant-loop-step
invariant-loop-step l =
    l.text.items ++ call_lines (drop (length l.yielded) l.steps) (drop (length l.yielded) l.lines) ≡ call_lines l.steps l.lines
