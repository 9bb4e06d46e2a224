use Rattle.std.proofs.Common.{◌≡◌, ◌+◌, vec_len}
use Rattle.std.specs.Vec.Iter.{into_iter_items, into_iter_len}
use Rattle.live_run.specs.internals.OpenedRuns.{HaveLeftFrom, IsEndedRun}
use Rattle.live_run.proofs.ended_run.ended_run_of.Given as goal

abbrev pub invariant-loop-live_task : goal.invariant-loop-live_task
invariant-loop-live_task l = record {
  ended_run : IsEndedRun l.objects.table l.objects.clerk.lock l.objects.ticket l.fn.job.workers l.fn.job.asks l.ended_run;
  rest : HaveLeftFrom l.objects.table l.objects.ticket l.fn.job.workers l.fn.job.asks (vec_len l.ended_run.tasks + 1) (into_iter_items l.live_task-iterator);
  count : vec_len l.ended_run.table + into_iter_len l.live_task-iterator ≡ vec_len l.fn.live_tasks + 2;
}
