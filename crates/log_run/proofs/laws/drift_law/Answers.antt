use Rattle.std.proofs.Common.{◌^◌, ◌-◌, ◌∷◌, ℕ, subst}
use Rattle.std.specs.Prelude.{IfOk}
use Rattle.std.specs.List.{AllByRecursion}
use Rattle.clocks.specs.declared.task_clock.TaskClock.{TaskClock}
use Rattle.clocks.specs.Pasts.{IsAtMost, IsWithinDrift, KeepsDrift, Sampled, TaskRead}
use Rattle.clocks.specs.TaskClocks.{read_answer}
use Rattle.clocks.specs.Timely.{clock_after}
use Rattle.log_run.specs.Drifts.{samples_in}
use Rattle.log_run.proofs.Contradicting.{all_unread, answered_unread, answers_unread, below_all, clock_unread, keeps_unread, last_before, no_fault, not_back, reads_within, sent_before, unread}
use Rattle.log_run.proofs.laws.drift_law.Goals as goal

pub returns : goal.returns
returns c = λ drift past taken keeps honest.
    let now = taken.now in
    let oldest : ℕ = 2 ^ 64 - 1 in
    let clock = clock_after drift oldest (samples_in past) in
    let within = all_unread (IsWithinDrift drift (Sampled now taken.sample)) past keeps.0 in
    let reads : KeepsDrift drift (TaskRead now ∷ unread past) = (reads_within drift now taken.sample (unread past) within, keeps_unread drift past keeps.1) in
    let timely = (c.timely_law.ensures drift oldest (TaskRead now ∷ unread past) reads (answers_unread past honest.1)).0 in
    let here = subst (λ (k : TaskClock). IfOk (read_answer k now) (λ value. AllByRecursion (IsAtMost value) (unread past))) (clock_unread drift oldest past) timely in
    no_fault taken (read_answer clock now) (sent_before drift now taken.sample taken.sample past keeps.0 honest.0)
    (not_back clock now (last_before drift oldest now taken.sample past keeps.0))
    (below_all (read_answer clock now) taken.sample (unread past) here (answered_unread taken.sample past honest.0))
