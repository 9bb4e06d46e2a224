use Rattle.std.proofs.Common.{◌≡◌, ◌+◌, map, drop}
use Rattle.serde_json.specs.View.{view}
use Rattle.program_io.specs.Reading.{in_turn}
use Rattle.program_io.specs.Members.{list_of}
use Rattle.program_io.proofs.Turns.{with_front}
use Rattle.program_io.proofs.members.list_of.Given as goal

abbrev pub invariant-loop-element : goal.invariant-loop-element
invariant-loop-element g l = with_front l.list (in_turn (λ _ d. g.F.Form.form d) (0 + l.element-index) (map view (drop l.element-index l.elements))) ≡ list_of g.F.Form.form (view l.value)
