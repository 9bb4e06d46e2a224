use Rattle.std.proofs.Common.{rules, ◌≡◌, true, false, refl}
use Rattle.std.specs.Prelude.{is_some}
use Rattle.log_line.proofs.LineTaking.{bad_stays, no_bad}
use Rattle.log_line.proofs.call_lines.CallLines.take.Goals as goal

pub returns-then-is_some : goal.returns-then-is_some
returns-then-is_some g c = λ lines known.
    let some : is_some c.args.self.now.bad ≡ true = search rules in
    bad_stays lines _ c.args.self.now c.args.self.now.bad refl some known

pub returns-in_ok-add-in-Ok : goal.returns-in_ok-add-in-Ok
returns-in_ok-add-in-Ok g c = λ lines known.
    let none : is_some c.args.self.now.bad ≡ false = search rules in
    c.in_ok-add-in-Ok.ensures lines known (no_bad c.args.self.now.bad none) c.in-Ok.ensures.ok
