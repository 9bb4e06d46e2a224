use Rattle.std.proofs.Common.{rules, ◌≡◌, false, map, refl}
use Rattle.std.specs.Prelude.{None, is_some}
use Rattle.log_line.specs.Readers.{kept}
use Rattle.log_line.proofs.Parting.{is_log, no_call_read}
use Rattle.log_line.proofs.LineTaking.{bad_line, calls_so_far, first_line, short_lines}
use Rattle.log_line.proofs.log_reader.TakenLines.finish.Goals as goal

pub returns-in-Some-bad-clause-err : goal.returns-in-Some-bad-clause-err
returns-in-Some-bad-clause-err c = λ lines taken.
    let none : is_some c.args.self.long ≡ false = search rules in
    let short = short_lines lines c.args.self c.args.self.long refl none taken in
    let first = first_line _ _ c.in-Some-first.first c.in-Some-first.is short.jobs.first in
    no_call_read lines _ short.others _ first.0 short.short first.1 short.jobs.parted c.in_ok-job.job _ _ (rw c.as_slice.ensures.value at c.in_ok-job.ensures.ok)
    (bad_line short.others c.args.self.calls c.in-Some-bad.field-0 c.in-Some-bad.is short.calls)

pub returns-clause-ok : goal.returns-clause-ok
returns-clause-ok c = λ lines taken.
    let none : is_some c.args.self.long ≡ false = search rules in
    let short = short_lines lines c.args.self c.args.self.long refl none taken in
    let first = first_line _ _ c.in-Some-first.first c.in-Some-first.is short.jobs.first in
    let so_far = calls_so_far short.others c.args.self.calls None (search rules) refl short.calls in
    let front = rw c.as_slice-2.ensures.value at c.in_ok-job_line.ensures in
    record {
      log = is_log lines _ short.others _ first.0 short.short first.1 short.jobs.parted _ _ (rw c.as_slice.ensures.value at c.in_ok-job.ensures.ok) so_far;
      writes = refl;
      jobs = map kept c.args.self.jobs.jobs.items;
      others = short.others;
      parted = short.jobs.parted;
      job_line = front;
    }
