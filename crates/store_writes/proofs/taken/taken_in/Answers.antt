use Rattle.std.proofs.Common.{◌+◌, ◌++◌, ◌∙◌, ap, sym, subst, arith}
use Rattle.std.specs.Prelude.{Option, option_to_list}
use Rattle.store_writes.specs.declared.taken.Taken.{Taken}
use Rattle.std.proofs.lemmas.Option.{slice_get-get_or}
use Rattle.store_writes.specs.internals.Firsts.{AreTakenBefore}
use Rattle.store_writes.proofs.Taking.{taken_all, taken_next}
use Rattle.store_writes.proofs.taken.taken_in.Goals as goal

pub loop-index-preserved : goal.loop-index-preserved
loop-index-preserved c =
    let events = c.args.events.now in
    let index = c.loop-index.index in
    let here = slice_get-get_or events index _ c.loop-index-test.true in
    let next = taken_next events index _ here c.loop-index.taken.items c.loop-index.invariant in
    let items = c.in_ok-add.ensures in
    let found = c.taken_at.ensures in
    subst (AreTakenBefore events (index + 1)) (sym (items ∙ ap (λ (o : Option Taken). c.loop-index.taken.items ++ option_to_list o) found)) next

pub returns : goal.returns
returns c = taken_all c.args.events.now c.loop-index.index c.loop-index.taken.items (grind (arith)) c.loop-index.invariant
