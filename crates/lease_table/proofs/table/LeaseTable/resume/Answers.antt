use Rattle.std.proofs.Common.{◌≡◌, ◌∙◌, List, sym, ap}
use Rattle.std.specs.Prelude.{None}
use Rattle.machines.specs.Refusals.{first_of}
use Rattle.grants.specs.declared.values.Row.{Row}
use Rattle.lease_table.specs.Tables.{Standing}
use Rattle.grants.specs.Snapshots.{snapshot_checks}
use Rattle.lease_table.specs.Snapshots.{resumed_from}
use Rattle.lease_table.specs.contracts.table.LeaseTable.{the_view}
use Rattle.lease_table.proofs.RowChecks.{passed, rows_in_range, all_running, ends_run}
use Rattle.lease_table.proofs.Snapshots.{snapshot_taken, resumed_is}
use Rattle.lease_table.proofs.table.LeaseTable.resume.Goals as goal

pub returns-in-Some-clause-again : goal.returns-in-Some-clause-again
returns-in-Some-clause-again c = λ past run s.
    let none : first_of (snapshot_checks c.args.policy c.args.snapshot) ≡ None = snapshot_taken c.args.policy c.policy_law.ensures past run c.args.snapshot s in
    absurd (cc (none, c.in-Some.ensures))

pub of-requires-clause-numbers : goal.of-requires-clause-numbers
of-requires-clause-numbers c = rw c.deref.ensures.value (passed c.args.policy c.args.snapshot (sym c.in_default.ensures)).numbers.rise

pub of-requires-clause-generations : goal.of-requires-clause-generations
of-requires-clause-generations c = rw c.deref.ensures.value (passed c.args.policy c.args.snapshot (sym c.in_default.ensures)).generations.rise

pub of-requires-clause-runs : goal.of-requires-clause-runs
of-requires-clause-runs c = rw c.deref.ensures.value (ends_run c.args.snapshot.kept.last c.args.snapshot.kept.deadline c.args.snapshot.rows.items (passed c.args.policy c.args.snapshot (sym c.in_default.ensures)).ends)

pub invariant_of-result : goal.invariant_of-result
invariant_of-result c = rw (c.of-2.ensures, c.in_ok-rows.ensures, c.deref.ensures.value) (rows_in_range c.args.policy c.args.snapshot c.policy_law-2.ensures (sym c.in_default.ensures))

table_is : (c : goal.After-drop-rows-2) → the_view record {
  policy = c.args.snapshot.kept.policy;
  last = c.args.snapshot.kept.last;
  term = c.args.snapshot.kept.term;
  publication = c.of-2.result;
  granted = c.args.snapshot.kept.granted;
  deadline = c.args.snapshot.kept.deadline;
  grace = c.args.snapshot.grace;
  rows = c.in_ok-rows.rows;
} ≡ resumed_from c.args.snapshot
table_is c =
    let kept = c.args.snapshot.kept in
    let standing : List Row → Standing = λ rows. record (resumed_from c.args.snapshot) { rows = rows } in
    rw (c.of-2.ensures, c.in_ok-rows.ensures, c.deref.ensures.value)
    (ap standing (all_running kept.last kept.deadline c.args.snapshot.rows.items (passed c.args.policy c.args.snapshot (sym c.in_default.ensures)).ends))

pub returns-clause-table : goal.returns-clause-table
returns-clause-table c = table_is c

pub returns-clause-again : goal.returns-clause-again
returns-clause-again c = λ past run s. (tt, sym (table_is c ∙ resumed_is _ c.args.snapshot s))
