use Rattle.std.proofs.Common.{length, subst}
use Rattle.store_writes.specs.internals.Firsts.{IsFound}
use Rattle.store_writes.proofs.Ruling.{judged, taken_moved}
use Rattle.store_writes.proofs.late.first_overtaken.Goals as goal

pub returns : goal.returns
returns c =
    let events = c.args.events.now in
    let sorted = c.sort.new.self.items in
    let are = taken_moved events c.in_ok-taken.taken.items sorted c.in_ok-taken.ensures c.in_ok-sort.ensures.permutation in
    judged events sorted are c.in_ok-sort.ensures.sorted c.in_ok-found.found
    (subst (λ (xs : _). IsFound xs (length xs) c.in_ok-found.found) c.as_slice.ensures.value c.in_ok-found.ensures)
