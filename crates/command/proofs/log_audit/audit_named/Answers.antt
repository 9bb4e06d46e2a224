use Rattle.std.proofs.Common.{◌∙◌}
use Rattle.std.proofs.lemmas.Result.{err_from_is_err_and}
use Rattle.command.proofs.Logs.{report_cut, report_written}
use Rattle.command.proofs.log_audit.audit_named.Goals as goal

pub returns-in_err-write_all-clause-err : goal.returns-in_err-write_all-clause-err
returns-in_err-write_all-clause-err g c =
    let cut = report_cut _ _ _ _ _ _ _ _ (c.as_bytes.ensures.value ∙ c.as_str.ensures.value) c.in_ok-report.ensures.ok c.in_err-write_all.ensures.err.0 c.in_err-write_all.ensures.err.1 in
    let p = err_from_is_err_and c.from_residual-in_err-write_all.result c.from_residual-in_err-write_all.ensures.1 in
    rw (p.1, p.2) cut

pub returns-clause-ok : goal.returns-clause-ok
returns-clause-ok g c =
    report_written _ _ _ _ _ _ _ _ (c.as_bytes.ensures.value ∙ c.as_str.ensures.value) c.in_ok-report.ensures.ok _ c.passes.ensures c.in_ok-write_all.ensures.ok
