use Rattle.std.proofs.Common.{refl}
use Rattle.command.proofs.audit_options.drift_given.Goals as goal

pub returns-in-Some-2-clause-ok : goal.returns-in-Some-2-clause-ok
returns-in-Some-2-clause-ok c =
    let written = rw c.in-Some-2.is at c.in_ok-drift.ensures in
    rw c.in-Some.is (c.in-Some-2.drift, refl, written)
