use Rattle.std.proofs.Common.{◌≡◌, ◌∙◌, ℕ, ◌+◌, ◌*◌, List, length, sym, ap, subst, arith, vec_len}
use Rattle.std.specs.Vec.Iter.{into_iter_items, into_iter_len}
use Rattle.history_lock.specs.Passes.{AreNewFrom}
use Rattle.live_run.specs.declared.live_task.LiveTask.{LiveTask}
use Rattle.live_run.specs.internals.LiveTasks.{IsLiveTask}
use Rattle.live_run.specs.internals.OpenedRuns.{AreLiveTasksFrom}
use Rattle.live_run.proofs.OpenedRunPasses.{live_tasks_push}
use Rattle.live_run.proofs.opened_run.live_tasks.Goals as goal

pub loop-pass-preserved : goal.loop-pass-preserved
loop-pass-preserved c =
    let i = c.loop-pass.invariant in let step = c.in-Some.ensures.steps in
    let table = c.args.table.now in let ticket = c.args.ticket.now in let workers = c.args.job.workers in
    let made = c.in_ok-live_task.ensures in let same = c.workers-per_task.ensures.value in
    let live_task = subst (λ (n : ℕ). IsLiveTask table ticket n c.in_ok-live_task.live_task) same made.live_task in
    let live_tasks = c.loop-pass.live_tasks in
    let new = subst (λ passes. AreNewFrom (vec_len live_tasks + 2) table.lock passes) step.0 i.passes in
    let more : vec_len c.push.new.self ≡ vec_len live_tasks + 1 = c.in_ok-push.ensures.len in
    let at : c.in_ok-live_task.live_task.task ≡ 1 + length live_tasks.items = omega (arith, made.task, c.in-Some-new.ensures.value, i.count, live_tasks.ok.0) in
    let next : vec_len live_tasks + 2 + 1 ≡ vec_len c.push.new.self + 2 = omega (arith, more) in
    let left : vec_len c.loop-pass.draws ≡ (into_iter_len c.next.new.self + 1) * (workers + 1) = i.left ∙ ap (λ (n : ℕ). n * (workers + 1)) (sym step.1) in record {
      count = more ∙ ap (λ (n : ℕ). n + 1) i.count;
      rest = omega (arith, i.rest, step.1, more);
      passes = subst (λ (n : ℕ). AreNewFrom n table.lock (into_iter_items c.next.new.self)) next new.1;
      draws = made.draws;
      left = omega (arith, left, made.left, same);
      few = omega (arith, i.few, more, c.requires.few.1);
      before = (let e : c.loop-pass.before + c.workers-per_task.result ≡ (vec_len live_tasks + 1) * workers = omega (arith, i.before, same) in e ∙ ap (λ (n : ℕ). n * workers) (sym more));
      live_tasks = subst (λ (live_tasks : List LiveTask). AreLiveTasksFrom table ticket workers 1 live_tasks) (sym c.in_ok-push.ensures.items) (live_tasks_push table ticket workers 1 live_tasks.items c.in_ok-live_task.live_task i.live_tasks live_task at);
    }

pub next_live_task-requires-clause-before : goal.next_live_task-requires-clause-before
next_live_task-requires-clause-before c =
    let i = c.loop-pass.invariant in let workers = c.args.job.workers in
    let at : vec_len c.loop-pass.live_tasks + 1 ≡ c.in-Some-new.task = omega (arith, c.in-Some-new.ensures.value, i.count) in
    let e : c.loop-pass.before + workers ≡ (vec_len c.loop-pass.live_tasks + 1) * workers = omega (arith, i.before) in
    subst (λ (n : ℕ). c.loop-pass.before + n ≡ c.in-Some-new.task * n) (sym c.workers-per_task.ensures.value) (e ∙ ap (λ (n : ℕ). n * workers) at)
