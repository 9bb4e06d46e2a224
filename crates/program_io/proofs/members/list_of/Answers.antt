use Rattle.std.proofs.lemmas.Result.{err_from_is_err_and}
use Rattle.serde_json.specs.Data.{Data}
use Rattle.serde_json.specs.View.{view}
use Rattle.program_io.specs.Members.{list_of}
use Rattle.program_io.proofs.Turns.{starts, goes_on, ends_as, is_done}
use Rattle.program_io.proofs.members.list_of.Goals as goal

pub loop-element-init : goal.loop-element-init
unfolding list_of
loop-element-init g c = rw (c.new-list.ensures, c.in_ok-elements.ensures) (starts _)

pub returns-in_err-read : goal.returns-in_err-read
returns-in_err-read g c =
    let p = err_from_is_err_and c.from_residual-in_err-read.result c.from_residual-in_err-read.ensures.1 in
    rw (p.1, p.2) (ends_as view (λ _ (d : Data). g.F.Form.form d) 0 c.loop-element.element-index c.in_ok-elements.elements.now c.element-item.result c.in_err-read.field-0.0 c.loop-element.list (list_of g.F.Form.form (view c.args.value.now)) c.loop-element-test.true c.element-item.is c.in_err-read.ensures c.loop-element.invariant)

pub loop-element-preserved : goal.loop-element-preserved
loop-element-preserved g c =
    rw c.in_ok-push.ensures.ok (goes_on view (λ _ (d : Data). g.F.Form.form d) 0 c.loop-element.element-index c.in_ok-elements.elements.now c.element-item.result c.in_ok-read.field-0 c.loop-element.list (list_of g.F.Form.form (view c.args.value.now)) c.loop-element-test.true c.element-item.is c.in_ok-read.ensures c.loop-element.invariant)

pub returns : goal.returns
returns g c = is_done view (λ _ (d : Data). g.F.Form.form d) 0 c.loop-element.element-index c.in_ok-elements.elements.now c.loop-element.list (list_of g.F.Form.form (view c.args.value.now)) c.loop-element-test.false c.loop-element.invariant
