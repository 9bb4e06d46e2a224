use Rattle.std.proofs.lemmas.Result.{IfOk-weaker}
use Rattle.command.proofs.Words.{one_argument}
use Rattle.command.proofs.arguments.with_log_options.Goals as goal

pub returns : goal.returns
returns c = λ app read.
    let logs = one_argument _ _ _ _ _ read c.traced_logs_argument.ensures c.in_ok-arg.ensures in
    let calls = one_argument _ _ _ _ _ logs c.flag.ensures c.in_ok-arg-2.ensures in
    let drift = one_argument _ _ _ _ _ calls c.value_argument.ensures c.in_ok-arg-3.ensures in
    let from = one_argument _ _ _ _ _ drift c.value_argument-2.ensures c.in_ok-arg-4.ensures in
    IfOk-weaker c.arg-5.result _ _ (λ r adds. one_argument _ _ _ _ _ from c.value_argument-3.ensures adds) c.arg-5.ensures
