use Rattle.std.proofs.Common.{[], ◌∷◌}
use Rattle.std.proofs.lemmas.Result.{IfErr-weaker, IfOk-weaker}
use Rattle.command.proofs.Logs.{not_after}
use Rattle.command.proofs.log_audit.read_after.Goals as goal

pub returns-clause-ok : goal.returns-clause-ok
returns-clause-ok g c =
    let line = c.args.line.now in
    let begun = c.in_ok-log-2.ensures [] line (c.in_ok-log.ensures [] [] c.new-log.ensures) in
    let taken = c.in_ok-log-3.ensures.ok (line ∷ []) begun in
    IfOk-weaker c.finished.result _ _ (λ read is. record { files = taken.files; read = taken.read; log = is }) (c.finished.ensures.ok (line ∷ taken.files) taken.reading)

pub returns-clause-err : goal.returns-clause-err
returns-clause-err g c =
    let line = c.args.line.now in
    let begun = c.in_ok-log-2.ensures [] line (c.in_ok-log.ensures [] [] c.new-log.ensures) in
    let taken = c.in_ok-log-3.ensures.ok (line ∷ []) begun in
    IfErr-weaker c.finished.result _ _ (λ error is. not_after line _ _ _ _ taken error is) (c.finished.ensures.err (line ∷ taken.files) taken.reading)
