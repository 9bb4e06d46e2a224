use Rattle.std.proofs.Common.{◌≡◌, ◌∙◌, ℕ, ◌+◌, ◌-◌, ap}
use Rattle.std.specs.Prelude.{None}
use Rattle.lease_table.specs.KeptValues.{kept_of}
use Rattle.cluster.specs.Pasts.{standing}
use Rattle.log_line.specs.declared.told.CallerReply.TheVariants.{NotRestored, Restored}
use Rattle.log_run.specs.Restores.{IsChecked}
use Rattle.log_run.proofs.Restored.{not_restored, restored, not_fewer}
use Rattle.log_run.proofs.playing.restore.Goals as goal

pub returns-in-Some : goal.returns-in-Some
returns-in-Some c = λ job past leads.
    let same : c.in_ok-kept.kept ≡ kept_of (standing job.policy past) = c.in_ok-kept.ensures ∙ ap kept_of (c.table.ensures job past (c.cluster.ensures job past leads)) in
    not_restored job past c.args.numbers c.in_ok-kept.kept same c.in-Some.fault _ c.args.machines.now
    (rw c.in-Some.is at c.restore_fault.ensures) (ap (NotRestored c.in-Some.fault) c.numbers_of-table.ensures) leads

pub returns : goal.returns
returns c = λ job past leads.
    let same : c.in_ok-kept.kept ≡ kept_of (standing job.policy past) = c.in_ok-kept.ensures ∙ ap kept_of (c.table.ensures job past (c.cluster.ensures job past leads)) in
    let checked : IsChecked c.in_ok-kept.kept c.args.numbers None = rw c.in_default.is at c.restore_fault.ensures in
    let granted = c.in_ok-grants_to_nobody.ensures job past leads in
    let many : c.in_ok-kept.kept.granted + (c.args.numbers.granted - c.numbers_of-table.result.granted) ≡ c.args.numbers.granted =
    not_fewer c.in_ok-kept.kept c.args.numbers c.numbers_of-table.result c.numbers_of-table.ensures checked in
    restored job past c.args.numbers c.in_ok-kept.kept same _ _ _ _ checked (ap (λ (n : ℕ). Restored n c.args.numbers.deadline) c.generation_of-generation.ensures)
    many granted _ (c.in_ok-play.ensures job _ granted.played)
