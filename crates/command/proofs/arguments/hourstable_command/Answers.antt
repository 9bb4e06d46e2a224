use Rattle.std.proofs.lemmas.Result.{IfOk-weaker}
use Rattle.command.proofs.Words.{one_more}
use Rattle.command.proofs.arguments.hourstable_command.Goals as goal

pub returns : goal.returns
returns c =
    let run = one_more _ _ _ _ _ c.bare_command.ensures c.in_ok-run_command.ensures c.in_ok-subcommand.ensures in
    let audit = one_more _ _ _ _ _ run c.in_ok-audit_command.ensures c.in_ok-subcommand-2.ensures in
    IfOk-weaker c.subcommand-3.result _ _ (λ r adds. one_more _ _ _ _ _ audit c.in_ok-trace_command.ensures adds) c.subcommand-3.ensures
