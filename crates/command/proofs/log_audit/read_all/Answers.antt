use Rattle.std.proofs.Common.{[]}
use Rattle.std.proofs.lemmas.Result.{IfErr-weaker, IfOk-weaker}
use Rattle.command.proofs.Logs.{not_judged}
use Rattle.command.proofs.log_audit.read_all.Goals as goal

pub returns-clause-ok : goal.returns-clause-ok
returns-clause-ok g c =
    let taken = c.in_ok-log.ensures.ok [] c.new-log.ensures in
    IfOk-weaker c.finished.result _ _ (λ read is. record { files = taken.files; read = taken.read; log = is }) (c.finished.ensures.ok taken.files taken.reading)

pub returns-clause-err : goal.returns-clause-err
returns-clause-err g c =
    let taken = c.in_ok-log.ensures.ok [] c.new-log.ensures in
    IfErr-weaker c.finished.result _ _ (λ error is. not_judged _ _ _ _ taken error is) (c.finished.ensures.err taken.files taken.reading)
