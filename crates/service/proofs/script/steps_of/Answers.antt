use Rattle.std.proofs.Common.{◌≡◌, ◌+◌, ◌∙◌, ℕ, map, ap, Err, Ok, add_comm}
use Rattle.serde_json.specs.View.{view}
use Rattle.faults.specs.declared.script_error.ScriptError.TheVariants.{BadStep}
use Rattle.service.specs.Scripts.{step_at, steps_of}
use Rattle.program_io.proofs.Turns.{starts, goes_on, ends, is_done}
use Rattle.service.proofs.script.steps_of.Goals as goal

pub loop-i-init : goal.loop-i-init
unfolding steps_of
loop-i-init c = rw c.new-steps.ensures (starts _)

pub returns-in-Err-WrongForm : goal.returns-in-Err-WrongForm
returns-in-Err-WrongForm c =
    let wrong = rw c.in-Err-WrongForm.field-0-is at c.in-Err-WrongForm.ensures in
    let read : step_at c.args.job (1 + c.loop-i.i) (view c.index-elements-i.result) ≡ Err (BadStep (1 + c.loop-i.i)) = rw wrong in
    ends view (step_at c.args.job) 1 c.loop-i.i c.args.elements.now c.index-elements-i.result (BadStep (1 + c.loop-i.i)) c.loop-i.steps (steps_of c.args.job (map view c.args.elements.now)) c.loop-i-test.true c.index-elements-i.is read c.loop-i.invariant
    ∙ ap (λ (m : ℕ). Err (BadStep m)) (add_comm 1 c.loop-i.i)

pub loop-i-preserved : goal.loop-i-preserved
loop-i-preserved c =
    let read : step_at c.args.job (1 + c.loop-i.i) (view c.index-elements-i.result) ≡ Ok c.in-Ok.step = rw c.in-Ok.ensures in
    rw c.in_ok-push-in-Ok.ensures.ok (goes_on view (step_at c.args.job) 1 c.loop-i.i c.args.elements.now c.index-elements-i.result c.in-Ok.step c.loop-i.steps (steps_of c.args.job (map view c.args.elements.now)) c.loop-i-test.true c.index-elements-i.is read c.loop-i.invariant)

pub returns : goal.returns
returns c = is_done view (step_at c.args.job) 1 c.loop-i.i c.args.elements.now c.loop-i.steps (steps_of c.args.job (map view c.args.elements.now)) c.loop-i-test.false c.loop-i.invariant
