use Rattle.log_line.proofs.LineTaking.{job_kept, other_left}
use Rattle.log_line.proofs.job_lines.keep_job.Goals as goal

pub returns-in_ok-push : goal.returns-in_ok-push
returns-in_ok-push c = λ lines others parted is.
    rw (c.if-is_job.true, c.in_ok-push.ensures.items) (job_kept lines others c.args.jobs.now.items _ _ parted (rw c.if-is_job.true at is) c.in_ok-keep.ensures)

pub returns-else-is_job : goal.returns-else-is_job
returns-else-is_job c = λ lines others parted is.
    rw c.if-is_job.false (other_left lines others c.args.jobs.now.items _ parted (rw c.if-is_job.false at is))
