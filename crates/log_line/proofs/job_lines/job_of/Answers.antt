use Rattle.std.proofs.Common.{rules, ◌<◌, ◌≡◌, length, refl, arith}
use Rattle.std.proofs.lemmas.Result.{err_from_is_err_and}
use Rattle.log_line.specs.Readers.{kept}
use Rattle.log_line.proofs.Parting.{no_job_here, one_job, other_job_here, same_more}
use Rattle.log_line.proofs.job_lines.job_of.Goals as goal

pub returns-in_err-job-clause-err : goal.returns-in_err-job-clause-err
returns-in_err-job-clause-err c =
    let p = err_from_is_err_and c.from_residual.result c.from_residual.ensures.1 in
    let some : 0 < length c.args.jobs.now = grind arith in
    rw (p.1, p.2) (no_job_here c.args.jobs.now 0 c.index-jobs-0.result _ some c.index-jobs-0.is (kept c.args.first.now) c.in_err-job.field-0.0 tt c.in_err-job.ensures.err)

pub returns-in_err-other-clause-err : goal.returns-in_err-other-clause-err
returns-in_err-other-clause-err c =
    let p = err_from_is_err_and c.from_residual-in_err-other.result c.from_residual-in_err-other.ensures.1 in
    rw (p.1, p.2) (no_job_here c.args.jobs.now c.loop-index.index c.index-jobs-index.result _ c.loop-index-test.true c.index-jobs-index.is (kept c.args.first.now) c.in_err-other.field-0.0
    (one_job _ c.in_ok-job.job c.loop-index.invariant) c.in_err-other.ensures.err)

pub returns-then-ne-clause-err : goal.returns-then-ne-clause-err
returns-then-ne-clause-err c =
    other_job_here c.args.jobs.now c.loop-index.index c.index-jobs-index.result _ c.loop-index-test.true c.index-jobs-index.is _ _ c.in_ok-job.job c.in_ok-other.other c.loop-index.auto.index refl c.loop-index.invariant
    c.in_ok-other.ensures.ok (search rules)

pub loop-index-preserved : goal.loop-index-preserved
loop-index-preserved c =
    let same : c.in_ok-other.other ≡ c.in_ok-job.job = search rules in
    same_more c.args.jobs.now c.loop-index.index c.index-jobs-index.result _ c.loop-index-test.true c.index-jobs-index.is c.in_ok-job.job c.loop-index.invariant (rw same at c.in_ok-other.ensures.ok)
