use Rattle.std.proofs.Common.{◌∙◌, ap, length}
use Rattle.assignment.proofs.Tasks.{refill-same}
use Rattle.assignment.proofs.slice.sorted.Goals as goal

pub returns-clause-permutation : goal.returns-clause-permutation
returns-clause-permutation c =
    let same = refill-same c.args.tasks.items c.sort_unstable.new.self (c.sort_unstable.ensures.len ∙ ap length c.deref_mut.ensures.value) in
    rw (same, ← c.deref_mut.ensures.value) c.sort_unstable.ensures.permutation

pub returns-clause-sorted : goal.returns-clause-sorted
returns-clause-sorted c =
    let same = refill-same c.args.tasks.items c.sort_unstable.new.self (c.sort_unstable.ensures.len ∙ ap length c.deref_mut.ensures.value) in
    rw same c.sort_unstable.ensures.sorted
