use Rattle.std.proofs.Common.{◌∷◌}
use Rattle.cluster.specs.Pasts.{event}
use Rattle.cluster.specs.continued.Jobs.{from_start}
use Rattle.stretches.proofs.Tasks.{both_ok}
use Rattle.stretches.specs.Tasks.{names_of}
use Rattle.log_trace.specs.Serving.{given_by}
use Rattle.log_trace.proofs.Giving.{given_none, given_other, handles_given, same_given}
use Rattle.log_trace.proofs.Holding.{taken_now}
use Rattle.log_trace.proofs.serving.give.Goals as goal

pub returns-in_default : goal.returns-in_default
returns-in_default c job past leads numbered watched are =
    let made = c.args.call.now in
    let told = c.args.answer.now in
    record {
      given = same_given past (event made told ∷ past) job.tasks (names_of c.args.handles.now.tasks.items)
          (λ task. given_other task past made told (given_by past task) c.in_default.not-Hold) are;
      breaks = watched;
    }

pub returns-in_default-answer : goal.returns-in_default-answer
returns-in_default-answer c job past leads numbered watched are =
    let made = c.args.call.now in
    let told = c.args.answer.now in
    record {
      given = same_given past (event made told ∷ past) job.tasks (names_of c.args.handles.now.tasks.items)
          (λ task. given_none task past made told (given_by past task) c.in_default-answer.not-Holding) are;
      breaks = watched;
    }

pub returns : goal.returns
returns c job past leads numbered watched are =
    let made = c.args.call.now in
    let told = c.args.answer.now in
    let run = c.run_law.ensures.run (from_start job) (event made told ∷ past) leads in
    let taken = taken_now job past made told c.in-Hold.task c.in-Hold.key c.in-Hold.at c.in-Holding.handle c.in-Hold.is c.in-Holding.is run.0 in
    both_ok c.give.result (c.give.ensures.named job (event made told ∷ past) leads watched.0)
    (c.give.ensures.breaks job (event made told ∷ past) leads taken.late watched)
    (λ gives now. handles_given job past made told c.in-Hold.task c.in-Hold.key c.in-Hold.at c.args.number c.in-Holding.handle c.in-Hold.is c.in-Holding.is numbered
    c.args.handles.now c.give.new.self watched are taken.within gives now)
