use Rattle.std.proofs.Common.{◌≡◌, ◌<◌, List, length, refl, sym, subst}
use Rattle.std.specs.Prelude.{false}
use Rattle.machines.specs.Numbers.{is_within}
use Rattle.slicelet.specs.States.{SliceletState}
use Rattle.cluster.proofs.TaskTurns.{task_turn, inside_job}
use Rattle.cluster.proofs.Stopping.{call_of_none, task_stopped}
use Rattle.cluster.proofs.cluster.Cluster.call_task.Goals as goal

pub returns-in_default : goal.returns-in_default
returns-in_default c = λ job past k.
    call_of_none job past c.args.self.now k c.args.task c.args.call.now (subst (λ (xs : List SliceletState). is_within c.args.task (length xs) ≡ false) c.as_slice.ensures.value c.in_default.ensures)

pub returns-in-Some-task_refusal : goal.returns-in-Some-task_refusal
returns-in-Some-task_refusal c = λ job past k.
    let inside = subst (λ (xs : List SliceletState). c.in-Some.place < length xs) c.as_slice.ensures.value c.in-Some.ensures.1 in
    task_stopped job past c.args.self.now k c.args.task c.args.call.now c.in-Some-task_refusal.why (inside_job job past c.args.task c.in-Some.place c.args.self.now k c.in-Some.ensures.0 inside)
    (c.in-Some-task_refusal.ensures job past k)

pub returns : goal.returns
returns c = λ job past k.
    let inside = subst (λ (xs : List SliceletState). c.in-Some.place < length xs) c.as_slice.ensures.value c.in-Some.ensures.1 in
    task_turn job past c.args.task c.in-Some.place c.args.call.now c.args.self.now _ c.in-Some.ensures.0 (sym (c.in_default-task_refusal.ensures job past k)) k c.index_mut.result.now c.take.new.slicelet
    c.index_mut.ensures.value inside refl (record { job = refl; earlier = refl; table = refl; clerks = refl; grants = refl; handles = refl; known_handles = λ key. refl; proposals = refl }) c.take.result c.take.ensures.step c.take.ensures.memory c.take.ensures.notes c.take.ensures.known _
    c.told_by_task.ensures
