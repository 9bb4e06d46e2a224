use Rattle.std.proofs.Common.{rules, ◌≡◌, true, false, refl}
use Rattle.std.specs.Prelude.{is_some}
use Rattle.log_line.proofs.LineTaking.{blank_more, long_stays, none_long, one_counts, short_lines}
use Rattle.log_line.proofs.log_reader.TakenLines.take.Goals as goal

pub returns-then-is_some : goal.returns-then-is_some
returns-then-is_some g c = λ lines are.
    let some : is_some c.args.self.now.long ≡ true = search rules in
    long_stays lines _ c.args.self.now c.args.self.now.long refl some are

pub returns-then-is_blank : goal.returns-then-is_blank
returns-then-is_blank g c = λ lines are.
    let none : is_some c.args.self.now.long ≡ false = search rules in
    none_long _ c.args.self.now c.args.self.now.long refl none
    (blank_more lines _ c.args.self.now (short_lines lines c.args.self.now c.args.self.now.long refl none are) (search rules) (search rules))

pub returns-then-is_job : goal.returns-then-is_job
returns-then-is_job g c = λ lines are.
    let none : is_some c.args.self.now.long ≡ false = search rules in
    let short = short_lines lines c.args.self.now c.args.self.now.long refl none are in
    let jobs = rw c.if-is_job.true at (c.in_ok-is_job.ensures _ _ short.jobs) in
    none_long _ (record { long = c.args.self.now.long; jobs = c.take.new.self; calls = c.args.self.now.calls }) c.args.self.now.long refl none
    (one_counts lines _ c.args.self.now short (search rules) _ true (search rules) jobs short.calls)

pub returns : goal.returns
returns g c = λ lines are.
    let none : is_some c.args.self.now.long ≡ false = search rules in
    let short = short_lines lines c.args.self.now c.args.self.now.long refl none are in
    let jobs = rw c.if-is_job.false at (c.in_ok-is_job.ensures _ _ short.jobs) in
    none_long _ (record { long = c.args.self.now.long; jobs = c.take.new.self; calls = c.take-2.new.self }) c.args.self.now.long refl none
    (one_counts lines _ c.args.self.now short (search rules) _ false (search rules) jobs (c.in_ok-take.ensures _ short.calls))
