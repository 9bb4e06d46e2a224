use Rattle.std.proofs.Common.{◌≡◌, sym, subst}
use Rattle.std.specs.Prelude.{None}
use Rattle.machines.specs.Refusals.{first_of}
use Rattle.grants.specs.declared.kept.Kept.{Kept}
use Rattle.grants.specs.KeptValues.{kept_checks}
use Rattle.lease_table.proofs.KeptValues.{in_range, taken}
use Rattle.lease_table.proofs.table.LeaseTable.restore.Goals as goal

pub invariant_of-result : goal.invariant_of-result
invariant_of-result c = rw (c.new.ensures, c.of.ensures) (in_range c.args.policy c.args.kept c.policy_law-2.ensures (sym c.in_default.ensures))

pub returns-in-Some-clause-crash : goal.returns-in-Some-clause-crash
returns-in-Some-clause-crash c = λ past run e.
    let none : first_of (kept_checks c.args.policy c.args.kept) ≡ None =
    subst (λ (k : Kept). first_of (kept_checks c.args.policy k) ≡ None) (sym e) (taken c.args.policy c.policy_law.ensures past run) in
    absurd (cc (none, c.in-Some.ensures))
