use Rattle.std.proofs.Common.{OnOk, take}
use Rattle.std.specs.Io.KnownBytes.{Appends}
use Rattle.diagnosis.specs.Sayings.{fault_lines}
use Rattle.diagnosis.proofs.saying.say_refusals.Given as goal

abbrev pub invariant-loop-fault : goal.invariant-loop-fault
invariant-loop-fault g l =
    OnOk l.said (Appends (g.E.Write.contents l.initial.errors) (g.E.Write.contents l.errors) (fault_lines l.input (take l.fault-index l.faults)))
