use Rattle.std.proofs.Common.{refl}
use Rattle.log_line.proofs.LineTaking.{counted_job}
use Rattle.log_line.proofs.job_lines.JobLines.take.Goals as goal

pub returns : goal.returns
returns c = λ lines others known.
    counted_job lines others _ _ _ (c.in_ok-keep_first.ensures lines known.first) refl
    (c.in_ok-keep_job.ensures lines others known.parted (rw known.before at c.in_ok-is_job.ensures))
