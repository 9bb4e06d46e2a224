use Rattle.std.proofs.lemmas.Result.{err_from_is_err_and}
use Rattle.grants.specs.declared.slicelet_call.SliceletCall.TheVariants.{Resume}
use Rattle.cluster.proofs.Rebuilding.{plays_on, plays_no_further}
use Rattle.cluster.proofs.resuming.resumed.Goals as goal

pub loop-call-preserved : goal.loop-call-preserved
loop-call-preserved c =
    plays_on c.args.task c.args.snapshot.now.calls (Resume c.args.snapshot.now.life) c.loop-call.call-index c.call-item.result
    (rw c.as_slice-call-items.ensures at c.loop-call-test.true) (rw c.as_slice-call-items.ensures at c.call-item.is)
    c.loop-call.slicelet c.loop-call.invariant c.call.new.self c.in_ok-call.field-0 c.in_ok-call.ensures.step

pub returns-in_err-call-clause-err : goal.returns-in_err-call-clause-err
returns-in_err-call-clause-err c =
    let p = err_from_is_err_and c.from_residual.result c.from_residual.ensures.1 in
    rw (p.1, p.2)
    (plays_no_further c.args.task c.args.snapshot.now.calls (Resume c.args.snapshot.now.life) c.loop-call.call-index c.call-item.result
    (rw c.as_slice-call-items.ensures at c.loop-call-test.true) (rw c.as_slice-call-items.ensures at c.call-item.is)
    c.loop-call.slicelet c.loop-call.invariant c.call.new.self c.in_err-call.field-0.0 c.in_err-call.ensures.step)
