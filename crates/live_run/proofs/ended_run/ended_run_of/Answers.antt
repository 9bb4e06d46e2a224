use Rattle.std.proofs.Common.{rules, ◌≡◌, ◌+◌, ◌∷◌, [], length, ap, subst, arith, vec_len, IfOk}
use Rattle.std.proofs.lemmas.List.{length-append}
use Rattle.std.specs.Vec.Iter.{into_iter_items}
use Rattle.live_run.specs.internals.LiveTasks.{HasLeft}
use Rattle.live_run.specs.internals.OpenedRuns.{HaveLeftFrom}
use Rattle.live_run.proofs.OpenedRunPasses.{ended_run_more, ended_run_two}
use Rattle.live_run.proofs.ended_run.ended_run_of.Goals as goal

pub loop-live_task-preserved : goal.loop-live_task-preserved
loop-live_task-preserved c =
    let i = c.loop-live_task.invariant in let step = c.in-Some.ensures.steps in let took = c.in_ok-take_ended.ensures in
    let table = c.args.objects.now.table in let clerk = c.args.objects.now.clerk.lock in let ticket = c.args.objects.now.ticket in
    let workers = c.args.job.workers in let asks = c.args.job.asks in
    let before = c.loop-live_task.ended_run in let after = c.take_ended.new.self in let left = c.in_ok-live_task.field-0 in
    let rest = subst (λ results. HaveLeftFrom table ticket workers asks (vec_len before.tasks + 1) results) step.0 i.rest in
    let has = subst (λ result. IfOk result (λ left. HasLeft table ticket workers asks (vec_len before.tasks + 1) left)) c.in_ok-live_task.was rest.0 in
    let more : vec_len after.table ≡ vec_len before.table + 1 = omega (arith, after.table.ok.0, before.table.ok.0, ap length took.table, length-append before.table.items (left.table ∷ [])) in
    let next : vec_len before.tasks + 1 + 1 ≡ vec_len after.tasks + 1 = omega (arith, after.tasks.ok.0, before.tasks.ok.0, ap length took.tasks, length-append before.tasks.items (left.history ∷ [])) in record {
      ended_run = ended_run_more table clerk ticket workers asks before after left i.ended_run has took.table took.clerk took.draws took.tasks took.records;
      rest = subst (λ n. HaveLeftFrom table ticket workers asks n (into_iter_items c.next.new.self)) next rest.1;
      count = omega (arith, i.count, step.1, more);
    }

pub loop-live_task-init : goal.loop-live_task-init
loop-live_task-init c =
    let made = c.in_ok-ended_run.ensures in record {
      ended_run = ended_run_two c.args.objects.now.table c.args.objects.now.clerk.lock c.args.objects.now.ticket c.args.job.workers c.args.job.asks c.args.assigner c.args.learner c.in_ok-ended_run.ended_run
          c.requires.assigner c.requires.learner made.table made.clerk made.draws made.tasks made.records;
      rest = search rules;
      count = search rules;
    }
