use Rattle.std.proofs.Common.{◌+◌, ◌<◌, map, length, arith, refl}
use Rattle.serde_json.specs.View.{view}
use Rattle.diagnosis.specs.Faults.{bad_steps_in}
use Rattle.diagnosis.proofs.Telling.{passes, tells_fault}
use Rattle.diagnosis.proofs.script_faults.bad_steps_of.Goals as goal

pub loop-i-init : goal.loop-i-init
unfolding bad_steps_in
loop-i-init c = rw c.new-faults.ensures.items refl

pub loop-i-preserved-in_default : goal.loop-i-preserved-in_default
loop-i-preserved-in_default c =
    passes view 20 c.args.job (map (λ f. f.refusal) c.loop-i.faults.items) c.loop-i.i c.args.elements.now c.index-elements-i.result
    (bad_steps_in c.args.job (map view c.args.elements.now)) c.loop-i-test.true c.index-elements-i.is (rw c.in_default.is at c.in_ok-mend.ensures) c.loop-i.invariant

pub loop-i-preserved : goal.loop-i-preserved
loop-i-preserved c =
    let room : length c.loop-i.faults.items < 20 = omega (arith, c.if-len-ge-MOST_FAULTS.false, c.len.ensures, c.loop-i.faults.ok.0) in
    tells_fault view (λ f. f.refusal) 20 c.args.job c.loop-i.faults.items c.push.new.self.items _ (c.loop-i.i + 1) c.loop-i.i c.args.elements.now c.index-elements-i.result
    (bad_steps_in c.args.job (map view c.args.elements.now)) c.loop-i-test.true c.index-elements-i.is (rw c.in-Some.is at c.in_ok-mend.ensures) room
    c.in_ok-push.ensures.items refl (omega arith) c.loop-i.invariant
