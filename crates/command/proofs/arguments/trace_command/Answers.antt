use Rattle.std.proofs.lemmas.Result.{IfOk-weaker}
use Rattle.command.proofs.Words.{one_argument}
use Rattle.command.proofs.arguments.trace_command.Goals as goal

pub returns : goal.returns
returns c =
    IfOk-weaker c.arg.result _ _ (λ r adds. one_argument _ _ _ _ _ (c.in_ok-with_log_options.ensures _ c.in_ok-trace_key.ensures) c.file_argument.ensures adds) c.arg.ensures
