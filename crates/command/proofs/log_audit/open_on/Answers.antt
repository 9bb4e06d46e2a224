use Rattle.command.proofs.Logs.{not_opened_on, opened_on}
use Rattle.command.proofs.log_audit.open_on.Goals as goal

pub returns-in-Ok-clause-ok : goal.returns-in-Ok-clause-ok
returns-in-Ok-clause-ok g c =
    opened_on c.args.state.now _ _ _ _ c.in_ok-line.field-0.line.items c.in_ok-line.field-0.snapshot c.in_ok-line.ensures.ok c.in-Ok.read
    (rw c.as_slice.ensures.value at c.in-Ok.ensures.ok)

pub returns-clause-err : goal.returns-clause-err
returns-clause-err g c =
    not_opened_on c.args.state.now _ _ _ _ c.in_ok-line.field-0.line.items c.in_ok-line.field-0.snapshot c.in_ok-line.ensures.ok c.in-Err.error
    (rw c.as_slice.ensures.value at c.in-Err.ensures.err)
