use Rattle.std.proofs.Common.{◌≡◌, ◌+◌, map, drop}
use Rattle.serde_json.specs.View.{view}
use Rattle.program_io.specs.Reading.{in_turn}
use Rattle.service.specs.Scripts.{step_at, steps_of}
use Rattle.program_io.proofs.Turns.{with_front}
use Rattle.service.proofs.script.steps_of.Given as goal

abbrev pub invariant-loop-i : goal.invariant-loop-i
invariant-loop-i l = with_front l.steps (in_turn (step_at l.job) (1 + l.i) (map view (drop l.i l.elements))) ≡ steps_of l.job (map view l.elements)
