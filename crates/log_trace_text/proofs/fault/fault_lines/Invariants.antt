use Rattle.std.proofs.Common.{◌≡◌, ◌++◌, drop}
use Rattle.log_trace_text.specs.Faults.{fault_lines}
use Rattle.log_trace_text.proofs.fault.fault_lines.Given as goal

-- the lines so far, and those that follow
abbrev pub invariant-loop-line : goal.invariant-loop-line
invariant-loop-line l =
    l.text.items ++ fault_lines l.places l.entries (drop l.line-index l.wrong) ≡ fault_lines l.places l.entries l.wrong
