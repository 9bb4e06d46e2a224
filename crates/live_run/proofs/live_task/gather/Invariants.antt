use Rattle.std.proofs.Common.{◌≡◌, ◌+◌, vec_len}
use Rattle.std.specs.Vec.Iter.{into_iter_items, into_iter_len}
use Rattle.live_run.specs.internals.LiveTasks.{HaveWorkedFrom, IsGathered}
use Rattle.live_run.proofs.live_task.gather.Given as goal

abbrev pub invariant-loop-one : goal.invariant-loop-one
invariant-loop-one l = record {
  gathered : IsGathered l.slicelet l.ticket l.asks l.gathered;
  rest : HaveWorkedFrom l.slicelet l.ticket l.asks (vec_len l.gathered.passes) (into_iter_items l.one-iterator);
  count : vec_len l.gathered.passes + into_iter_len l.one-iterator ≡ vec_len l.fn.worked + 1;
}
