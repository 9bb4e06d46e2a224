use Rattle.std.proofs.Common.{refl}
use Rattle.faults.specs.Faults.{fault_words}
use Rattle.diagnosis.specs.Sayings.{line_about}
use Rattle.diagnosis.proofs.Lines.{says_more}
use Rattle.diagnosis.proofs.saying.say_refusals.Goals.{in-Err, in_default}
use Rattle.diagnosis.proofs.saying.say_refusals.Goals as goal

pub loop-fault-preserved : goal.loop-fault-preserved
loop-fault-preserved g c =
    let errors = g.E.Write.contents in
    elim c.match-say_refusal.branch [
      | in-Err w ↦ rw w.said-is tt
      | in_default w ↦
          rw w.said-is (says_more (λ f. line_about c.args.input.now (fault_words f)) c.args.faults.now c.loop-fault.fault-index c.fault-item.result (errors c.args.errors.now)
          (errors c.loop-fault.errors) (errors c.say_refusal.new.errors) c.loop-fault.said c.say_refusal.result c.loop-fault-test.true c.fault-item.is (rw w.in_default.is refl)
          c.loop-fault.invariant c.say_refusal.ensures)
    ]
