use Rattle.std.proofs.Common.{◌∙◌, List, ap, arith}
use Rattle.grants.specs.declared.values.Row.{Row}
use Rattle.grants.specs.Rows.{runs_at}
use Rattle.lease_table.specs.Tables.{Standing}
use Rattle.lease_table.proofs.Running.{running-running, all_of_filter}
use Rattle.lease_table.proofs.table.LeaseTable.sweep.Goals as goal

pub invariant_of-self : goal.invariant_of-self
invariant_of-self c =
    let now = c.self.inside in
    record {
      reading = c.self.invariant.reading;
      term = c.self.invariant.term;
      grants = c.self.invariant.grants;
      rows = rw c.keep_running.ensures (all_of_filter _ (runs_at now.last) now.rows c.self.invariant.rows);
      generations = rw c.keep_running.ensures (all_of_filter _ (runs_at now.last) now.rows c.self.invariant.generations);
    }

pub returns-then-is_sweep_due : goal.returns-then-is_sweep_due
returns-then-is_sweep_due c =
    let now = c.self.inside in
    let standing : List Row → Standing = λ rows. record {
      policy = now.policy;
      last = now.last;
      term = now.term;
      committed = now.publication.committed;
      pending = now.publication.pending;
      granted = now.granted;
      deadline = now.deadline;
      grace = now.grace;
      rows = rows;
    } in
    rw c.keep_running.ensures (ap standing (running-running now.last now.last (omega arith) now.rows)) ∙ c.self.view_is
