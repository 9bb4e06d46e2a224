use Rattle.std.proofs.Common.{◌≡◌, ◌++◌, drop}
use Rattle.log_trace_text.specs.Calls.{untold_lines}
use Rattle.log_trace_text.proofs.call.untold_lines.Given as goal

-- the lines so far, and those that follow
abbrev pub invariant-loop-i : goal.invariant-loop-i
invariant-loop-i l =
    l.text.items ++ untold_lines l.places l.i (drop l.i l.entries) ≡ untold_lines l.places l.from (drop l.from l.entries)
