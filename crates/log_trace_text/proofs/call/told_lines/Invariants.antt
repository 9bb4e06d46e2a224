use Rattle.std.proofs.Common.{◌≡◌, ◌++◌, drop}
use Rattle.log_trace_text.specs.Calls.{told_lines}
use Rattle.log_trace_text.proofs.call.told_lines.Given as goal

-- the lines so far, and those that follow
abbrev pub invariant-loop-line : goal.invariant-loop-line
invariant-loop-line l =
    l.text.items ++ told_lines l.places l.entries (drop l.line-index l.told) ≡ told_lines l.places l.entries l.told
