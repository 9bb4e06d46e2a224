use Rattle.std.proofs.Common.{◌≡◌, map}
use Rattle.serde_json.specs.View.{view}
use Rattle.diagnosis.specs.Faults.{bad_steps_in}
use Rattle.diagnosis.proofs.Telling.{told_of}
use Rattle.diagnosis.proofs.script_faults.bad_steps_of.Given as goal

abbrev pub invariant-loop-i : goal.invariant-loop-i
invariant-loop-i l = told_of view 20 l.job (map (λ f. f.refusal) l.faults.items) l.i l.elements ≡ bad_steps_in l.job (map view l.elements)
