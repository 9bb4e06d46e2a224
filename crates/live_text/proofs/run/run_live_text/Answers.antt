use Rattle.std.proofs.Common.{rules, ◌≡◌}
use Rattle.std.proofs.lemmas.Result.{err_from_is_err_and}
use Rattle.program_io.specs.Streams.{ReadsAll}
use Rattle.program_io.proofs.Failing.{fails_unread}
use Rattle.live_text.specs.Inputs.{SaysSomeRun, IsRefused}
use Rattle.live_text.specs.Lines.{live_text}
use Rattle.live_text.proofs.Failing.{answered, fails_cut}
use Rattle.live_text.proofs.run.run_live_text.Goals as goal

pub returns-in_err-job-clause-err : goal.returns-in_err-job-clause-err
returns-in_err-job-clause-err g c =
    let p = err_from_is_err_and c.from_residual-in_err-job.result c.from_residual-in_err-job.ensures.1 in
    let reads : ReadsAll (g.R.Read.remaining c.args.reader.now) (g.R.Read.remaining c.read_all.new.reader) c.as_slice.result.now = rw c.as_slice.ensures.value c.in_ok-bytes.ensures in
    rw (p.1, p.2) (fails_unread SaysSomeRun (λ bytes refusal. IsRefused bytes) (g.R.Read.remaining c.args.reader.now) (g.R.Read.remaining c.read_all.new.reader) (g.W.Write.contents c.args.writer.now) c.as_slice.result.now c.in_err-job.field-0.0 reads c.in_err-job.ensures.err)

pub returns-in_err-write_all-clause-err : goal.returns-in_err-write_all-clause-err
returns-in_err-write_all-clause-err g c =
    let p = err_from_is_err_and c.from_residual-in_err-write_all.result c.from_residual-in_err-write_all.ensures.1 in
    let reads : ReadsAll (g.R.Read.remaining c.args.reader.now) (g.R.Read.remaining c.read_all.new.reader) c.as_slice.result.now = rw c.as_slice.ensures.value c.in_ok-bytes.ensures in
    let is : c.as_bytes.result.now ≡ live_text c.in_ok-report.report.asked c.in_ok-report.report.generation c.in_ok-report.report.audit = search rules in
    rw (p.1, p.2) (fails_cut (g.R.Read.remaining c.args.reader.now) (g.R.Read.remaining c.read_all.new.reader) (g.W.Write.contents c.args.writer.now) (g.W.Write.contents c.write_all.new.writer)
    c.as_slice.result.now c.as_bytes.result.now c.in_ok-job.job c.in_ok-report.report reads c.in_ok-job.ensures.ok c.in_ok-report.ensures is c.in_err-write_all.ensures.err)

pub returns-clause-ok : goal.returns-clause-ok
returns-clause-ok g c =
    let reads : ReadsAll (g.R.Read.remaining c.args.reader.now) (g.R.Read.remaining c.read_all.new.reader) c.as_slice.result.now = rw c.as_slice.ensures.value c.in_ok-bytes.ensures in
    let is : c.as_bytes.result.now ≡ live_text c.in_ok-report.report.asked c.in_ok-report.report.generation c.in_ok-report.report.audit = search rules in
    answered (g.R.Read.remaining c.args.reader.now) (g.R.Read.remaining c.read_all.new.reader) (g.W.Write.contents c.args.writer.now) (g.W.Write.contents c.write_all.new.writer)
    c.as_slice.result.now c.as_bytes.result.now c.in_ok-job.job c.in_ok-report.report reads c.in_ok-job.ensures.ok c.in_ok-report.ensures is c.in_ok-write_all.ensures.ok
