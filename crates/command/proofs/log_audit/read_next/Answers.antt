use Rattle.std.proofs.Common.{rules, ◌≡◌, ◌≢◌, codes}
use Rattle.std.proofs.lemmas.Result.{IfOk-weaker}
use Rattle.command.proofs.Logs.{from_file, from_input}
use Rattle.command.proofs.log_audit.read_next.Goals as goal

pub returns-then-eq-clause-ok : goal.returns-then-eq-clause-ok
returns-then-eq-clause-ok g c = λ files reading.
    let dash : c.args.name.now ≡ codes "-" = search rules in
    IfOk-weaker _ _ _ (λ log one. from_input files c.args.name.now _ _ log dash one) (c.read_named.ensures.ok files reading)

pub returns-in-Ok-clause-ok : goal.returns-in-Ok-clause-ok
returns-in-Ok-clause-ok g c = λ files reading.
    let other : c.args.name.now ≢ codes "-" = search rules in
    IfOk-weaker _ _ _ (λ log one. from_file files c.args.name.now _ _ _ log other one) (c.read_named-in-Ok.ensures.ok files reading)
