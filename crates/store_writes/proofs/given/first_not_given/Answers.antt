use Rattle.std.proofs.Common.{subst}
use Rattle.std.proofs.lemmas.Option.{slice_get-get_or}
use Rattle.store_writes.specs.internals.Firsts.{IsLacking}
use Rattle.store_writes.proofs.Giving.{given_on, is_first_lacking}
use Rattle.store_writes.proofs.given.first_not_given.Goals as goal

pub returns-then-is_lacking : goal.returns-then-is_lacking
returns-then-is_lacking c =
    let events = c.args.events.now in
    let index = c.loop-index.index in
    let here = slice_get-get_or events index _ c.loop-index-test.true in
    let lacks = c.in_ok-is_lacking.ensures.lacking events index c.loop-index.invariant.given here in
    is_first_lacking events index _ here (subst (IsLacking events index _) c.if-is_lacking.true lacks) c.loop-index.invariant.before

pub loop-index-preserved : goal.loop-index-preserved
loop-index-preserved c =
    let events = c.args.events.now in
    let index = c.loop-index.index in
    let here = slice_get-get_or events index _ c.loop-index-test.true in
    let lacks = c.in_ok-is_lacking.ensures.lacking events index c.loop-index.invariant.given here in
    record {
      given = c.in_ok-is_lacking.ensures.kept events index c.loop-index.invariant.given here;
      before = given_on events index _ here (subst (IsLacking events index _) c.if-is_lacking.false lacks) c.loop-index.invariant.before;
    }
