use Rattle.std.proofs.Common.{◌∙◌, sym, arith}
use Rattle.reasons.proofs.Breaking.{none_where_denied, none_up_to, denied, taken_now}
use Rattle.reasons.proofs.breaks.breaking_call.Goals as goal

pub returns : goal.returns
returns c =
    let now = taken_now c.args.slicelet.now c.args.handle.now.key c.args.at c.in-Ok.taken_now (sym c.hold.ensures.state ∙ c.in-Ok.is) in
    none_up_to c.args.slicelet.now c.args.handle.now c.args.at c.loop-before.before (let l = c.loop-before-test.false in omega (arith, now, l)) c.loop-before.invariant

pub returns-in_default-hold : goal.returns-in_default-hold
returns-in_default-hold c =
    none_where_denied c.args.slicelet.now c.args.handle.now c.args.at
    (denied c.args.slicelet.now c.args.handle.now.key c.args.at c.in_default-hold.field-0 (sym c.hold.ensures.state ∙ c.in_default-hold.is))
