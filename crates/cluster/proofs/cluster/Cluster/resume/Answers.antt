use Rattle.std.proofs.Common.{◌≡◌, true, sym, subst}
use Rattle.std.specs.Prelude.{None}
use Rattle.std.proofs.lemmas.Result.{err_from_is_err_and}
use Rattle.machines.specs.Refusals.{first_of}
use Rattle.grants.specs.Policies.{Terms, is_policy}
use Rattle.job_calls.specs.Snapshots.{resume_checks}
use Rattle.cluster.proofs.SnapshotChecks.{without_fault, fault_told, run_unrefused, tasks_unrefused}
use Rattle.cluster.proofs.Rebuilding.{stands_leads}
use Rattle.cluster.proofs.cluster.Cluster.resume.Goals as goal

pub returns-in-Some-clause-refused : goal.returns-in-Some-clause-refused
returns-in-Some-clause-refused c = fault_told c.args.job c.args.snapshot.now c.in-Some.fault (sym c.in-Some.ensures)

pub returns-in-Some-clause-again : goal.returns-in-Some-clause-again
returns-in-Some-clause-again c = λ past is notes handles.
    let within = subst (λ (p : Terms). is_policy p ≡ true) c.policy.ensures c.policy_law.ensures in
    let none : first_of (resume_checks c.args.job c.args.snapshot.now) ≡ None = run_unrefused c.args.job within past c.args.snapshot.now is notes handles in
    absurd (cc (none, c.in-Some.ensures))

pub resumed_tasks-requires : goal.resumed_tasks-requires
resumed_tasks-requires c = rw c.as_slice.ensures.value (without_fault c.args.job c.args.snapshot.now (sym c.in_default.ensures)).tasks

pub returns-in_err-tasks-clause-again : goal.returns-in_err-tasks-clause-again
returns-in_err-tasks-clause-again c = λ past is notes handles.
    let p = err_from_is_err_and c.from_residual.result c.from_residual.ensures.1 in
    rw (p.1, p.2) (tasks_unrefused c.args.job past c.args.snapshot.now is c.in_err-tasks.field-0.0 (rw c.as_slice.ensures.value at c.in_err-tasks.ensures.err))

pub returns-clause-leads : goal.returns-clause-leads
returns-clause-leads c = λ past is.
    let within = subst (λ (p : Terms). is_policy p ≡ true) c.policy.ensures c.policy_law.ensures in
    stands_leads c.args.job within c.args.snapshot.now c.in_ok-tasks.tasks.items c.in_ok-resumed_with.field-0 (rw c.as_slice.ensures.value at c.in_ok-tasks.ensures.ok)
    c.in_ok-resumed_with.ensures past is
