use Rattle.std.proofs.Common.{◌∷◌, refl}
use Rattle.slicelet.specs.Rules.{covers_key}
use Rattle.cluster.specs.Answers.{covers}
use Rattle.cluster.specs.Pasts.{event, task_calls, history}
use Rattle.cluster.proofs.TaskAcceptance.{accepted_calls}
use Rattle.reasons.specs.Reasons.{by_table}
use Rattle.reasons.proofs.Answering.{table_refused, answer_of}
use Rattle.reasons.proofs.reasons.answer_law.Goals as goal

pub returns-clause-table : goal.returns-clause-table
returns-clause-table c = λ job past made e leads. table_refused job past made e (c.run_law.ensures.run job (event made (by_table e) ∷ past) leads).0

pub returns-clause-task : goal.returns-clause-task
returns-clause-task c = λ job past made r leads own keyed.
    let run = c.run_law.ensures.run job (event made r ∷ past) leads in
    let within = c.run_law.ensures.within job (event made r ∷ past) leads in
    answer_of job past
    (λ task key inside. c.covers_law.ensures job past task key within run.1 inside)
    (λ task key at agree. c.agreement_law.ensures.rule (covers_key key) (covers past key) (task_calls task past) at agree)
    (λ task handle at agree. c.agreement_law.ensures.continuous (covers_key handle.key) (covers past handle.key) (task_calls task past) handle at agree)
    (λ task handle at inside. c.state_law.ensures.checked (task_calls task past) (history task past) handle at inside
    (record { state = refl; accepted = accepted_calls job past task run.1 }))
    made r run.0 own keyed
