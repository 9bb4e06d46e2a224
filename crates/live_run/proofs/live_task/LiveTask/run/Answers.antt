use Rattle.std.proofs.Common.{◌≡◌, ◌∙◌, ℕ, ◌+◌, ap, arith, subst, vec_len}
use Rattle.history_lock.specs.Histories.{IsLegal}
use Rattle.slicelet.specs.Steps.{event_step}
use Rattle.live_run.specs.internals.LiveTasks.{IsGathered}
use Rattle.live_run.proofs.LiveTaskMembers.{has_left}
use Rattle.live_run.proofs.live_task.LiveTask.run.Goals as goal

pub returns : goal.returns
returns g c =
    let left = c.dismiss.ensures in
    let keeps = c.in_ok-passes.ensures.passes in
    let gathered = c.in_ok-table.ensures in
    let table = c.args.objects.now.table in let ticket = c.args.objects.now.ticket in
    let same = left.table ∙ gathered.table in
    let many : vec_len c.in_ok-table.gathered.passes ≡ c.args.job.workers + 1 =
    omega (arith, gathered.many, c.in_ok-passes.ensures.many, c.in_ok-workers.ensures.tail_len, c.requires.live_task.many) in
    let all = subst (λ (n : ℕ). IsGathered c.args.self.slicelet ticket n c.in_ok-table.gathered) c.asks.ensures.value gathered.gathered in
    has_left c.args.self.slicelet ticket table c.args.job.workers c.args.job.asks c.args.self.task c.dismiss.result c.in_ok-table.gathered all many
    c.requires.live_task.numbered
    (subst (λ machine. IsLegal event_step machine c.dismiss.result.history) c.requires.live_task.new left.played)
    (rw same keeps.at_table.own)
    (ap (λ p. p.lane) same ∙ (keeps.at_table.lane ∙ (ap (λ p. p.lane) c.task_passes-passes.ensures.table ∙ c.requires.live_task.of_lane)))
    left.draws left.records
