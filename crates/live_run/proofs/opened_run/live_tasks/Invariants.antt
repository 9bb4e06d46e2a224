use Rattle.std.proofs.Common.{◌≡◌, ◌+◌, ◌*◌, ◌≤◌, All, vec_len}
use Rattle.std.specs.Vec.Iter.{into_iter_items, into_iter_len}
use Rattle.history_lock.specs.Passes.{AreNewFrom}
use Rattle.tickets.specs.Tickets.{new_ticket_pass}
use Rattle.live_run.specs.internals.OpenedRuns.{AreLiveTasksFrom}
use Rattle.live_run.proofs.opened_run.live_tasks.Given as goal

abbrev pub invariant-loop-pass : goal.invariant-loop-pass
invariant-loop-pass l = record {
  count : vec_len l.live_tasks ≡ l.number;
  rest : vec_len l.live_tasks + into_iter_len l.pass-iterator ≡ l.fn.job.tasks;
  passes : AreNewFrom (vec_len l.live_tasks + 2) l.table.lock (into_iter_items l.pass-iterator);
  draws : All (λ pass. pass ≡ new_ticket_pass l.ticket) l.draws.items;
  left : vec_len l.draws ≡ into_iter_len l.pass-iterator * (l.fn.job.workers + 1);
  few : l.before ≤ vec_len l.live_tasks * 7;
  before : l.before ≡ vec_len l.live_tasks * l.fn.job.workers;
  live_tasks : AreLiveTasksFrom l.table l.ticket l.fn.job.workers 1 l.live_tasks.items;
}
