use Rattle.std.proofs.Common.{◌≡◌, ℕ, ◌<◌, ◌∙◌, true, false, length, map, sym, ap, subst, arith}
use Rattle.cluster.specs.Pasts.{task_calls}
use Rattle.std.specs.Prelude.{List}
use Rattle.std.proofs.Math.Seq.{map-set_same}
use Rattle.machines.specs.Numbers.{is_within}
use Rattle.cluster.proofs.ActorLists.{within_at}
use Rattle.stretches.specs.declared.breaks.TaskHandles.{TaskHandles}
use Rattle.stretches.specs.Breaks.{AreBreaks, named}
use Rattle.stretches.proofs.Lists.{each_at}
use Rattle.stretches.proofs.Tasks.{kept_set, kept_strange, not_within}
use Rattle.stretches.proofs.job_handles.JobHandles.observe_task.Goals as goal

pub returns-in-Some-clause-breaks : goal.returns-in-Some-clause-breaks
returns-in-Some-clause-breaks c job past told taken leads few each =
    let items = c.args.self.now.tasks.items in
    let place = c.in-Some.place in
    let same : c.as_slice.result.now ≡ items = c.as_slice.ensures.value in
    let inside : place < length items = subst (λ (xs : List TaskHandles). place < length xs) same c.in-Some.ensures.1 in
    let within : is_within c.args.task job.tasks ≡ true = within_at place c.args.task job.tasks c.in-Some.ensures.0 (omega (arith, inside, each.0)) in
    let old : AreBreaks c.args.task (task_calls c.args.task past) c.index_mut.result.now
    = subst (λ (n : ℕ). AreBreaks n (task_calls n past) c.index_mut.result.now) c.in-Some.ensures.0 (each_at (λ task. AreBreaks task (task_calls task past)) job.tasks items each place c.index_mut.result.now inside c.index_mut.ensures.value) in
    kept_set AreBreaks job past c.args.task place c.args.call.now told items c.observe_call.new.kept c.in-Some.ensures.0 inside each (c.observe_call.ensures.breaks job past told taken leads few within old)

pub returns-in-None-clause-breaks : goal.returns-in-None-clause-breaks
returns-in-None-clause-breaks c job past told taken leads few each =
    let same : c.as_slice.result.now ≡ c.args.self.now.tasks.items = c.as_slice.ensures.value in
    let strange : is_within c.args.task (length c.args.self.now.tasks.items) ≡ false = ap (λ (xs : List TaskHandles). is_within c.args.task (length xs)) (sym same) ∙ c.in-None.ensures in
    kept_strange AreBreaks job past c.args.task c.args.call.now told c.args.self.now.tasks.items
    (λ i inside. not_within c.args.task (length c.args.self.now.tasks.items) i strange (omega (arith, inside, each.0))) each

pub returns-in-Some-clause-named : goal.returns-in-Some-clause-named
returns-in-Some-clause-named c =
    let items = c.args.self.now.tasks.items in
    let old = c.index_mut.result.now in
    map-set_same (λ (kept : TaskHandles). map named kept.handles.items) items c.in-Some.place c.observe_call.new.kept old
    (c.observe_call.ensures.named ∙ ap (λ (kept : TaskHandles). map named kept.handles.items) c.index_mut.ensures.value)
