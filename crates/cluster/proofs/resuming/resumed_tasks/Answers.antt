use Rattle.std.proofs.Common.{◌≡◌, ℕ, ◌+◌, ◌<◌, List, length, refl, sym, subst, arith}
use Rattle.std.proofs.lemmas.Option.{slice_get_read}
use Rattle.slicelet.specs.States.{SliceletState}
use Rattle.cluster.specs.continued.Snapshots.{calls_in}
use Rattle.cluster.specs.internals.Resuming.{IsPlayedTo, AreResumed}
use Rattle.cluster.proofs.Rebuilding.{resumed_more}
use Rattle.cluster.proofs.resuming.resumed_tasks.Goals as goal

pub loop-place-preserved : goal.loop-place-preserved
loop-place-preserved c =
    let number : c.unwrap-task.result ≡ c.loop-place.place + 1 = rw c.unwrap-task.ensures at c.new.ensures.value in
    let inside : c.loop-place.place < length c.args.tasks.now =
    (let test = c.loop-place-test.true in let all = c.tasks-place-end.ensures.value in let same = c.requires in omega (arith, test, all, same)) in
    let here = slice_get_read c.args.tasks.now (length c.args.tasks.now) c.loop-place.place c.index-tasks-place.result refl inside c.index-tasks-place.is in
    let played = subst (λ (n : ℕ). IsPlayedTo n (calls_in c.index-tasks-place.result) c.in-Ok.slicelet) number c.in-Ok.ensures.ok in
    subst (λ (xs : List SliceletState). AreResumed (c.loop-place.place + 1) c.args.tasks.now xs) (sym c.in_ok-push-in-Ok.ensures.items)
    (resumed_more c.loop-place.place c.args.tasks.now c.loop-place.slicelets.items c.index-tasks-place.result c.in-Ok.slicelet c.loop-place.invariant here played)
