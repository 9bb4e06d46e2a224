use Rattle.std.proofs.lemmas.Result.{err_from_is_err_and}
use Rattle.command.proofs.Logs.{trace_cut, trace_written}
use Rattle.command.proofs.log_tracing.trace_named.Goals as goal

pub returns-in_err-write_all-clause-err : goal.returns-in_err-write_all-clause-err
returns-in_err-write_all-clause-err g c =
    let cut = trace_cut _ _ _ _ _ _ _ _ c.as_slice-2.ensures.value c.in_ok-traced.ensures.ok c.in_err-write_all.ensures.err.0 c.in_err-write_all.ensures.err.1 in
    let p = err_from_is_err_and c.from_residual-in_err-write_all.result c.from_residual-in_err-write_all.ensures.1 in
    rw (p.1, p.2) cut

pub returns-clause-ok : goal.returns-clause-ok
returns-clause-ok g c =
    trace_written _ _ _ _ _ _ _ _ c.as_slice-2.ensures.value c.in_ok-traced.ensures.ok c.in_ok-write_all.ensures.ok
