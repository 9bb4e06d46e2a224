use Rattle.std.proofs.lemmas.Result.{IfOk-weaker}
use Rattle.command.proofs.Words.{one_argument}
use Rattle.command.proofs.arguments.audit_drift.Goals as goal

pub returns : goal.returns
returns c =
    IfOk-weaker c.arg.result _ _ (λ r adds. one_argument _ _ _ _ _ c.in_ok-audit_flags.ensures c.value_argument.ensures adds) c.arg.ensures
