use Rattle.std.proofs.Common.{List, take, sym, subst, arith}
use Rattle.std.proofs.lemmas.List.{take_more}
use Rattle.std.proofs.lemmas.Option.{slice_get-get_or}
use Rattle.store_writes.specs.declared.taken.Taken.{Taken}
use Rattle.store_writes.specs.internals.Firsts.{AreGreatest}
use Rattle.store_writes.proofs.Passing.{found_all}
use Rattle.store_writes.proofs.late.first_late.Goals as goal

pub loop-place-preserved : goal.loop-place-preserved
loop-place-preserved c =
    let taken = c.args.taken.now in
    let place = c.loop-place.place in
    let here = slice_get-get_or taken place _ c.loop-place-test.true in
    let greater = c.in_ok-by.ensures.greater (take place taken) c.loop-place.invariant.shelves in
    record {
      shelves = subst (λ (xs : List Taken). AreGreatest xs c.take.new.self) (sym (take_more taken place _ c.loop-place-test.true)) (c.in_ok-by.ensures.kept (take place taken) c.loop-place.invariant.shelves);
      first = c.earlier-first.ensures taken place c.loop-place.invariant.first here greater;
    }

pub returns : goal.returns
returns c = found_all c.args.taken.now c.loop-place.place c.loop-place.first (grind (arith)) (grind (arith)) c.loop-place.invariant.first
