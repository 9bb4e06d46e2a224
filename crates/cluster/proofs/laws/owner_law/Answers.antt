use Rattle.grants.specs.Assignments.{slices_of}
use Rattle.lease_table.specs.Calls.{committed_in}
use Rattle.lease_table.specs.Runs.{commits_in}
use Rattle.lease_table.specs.Generations.{assignment_in}
use Rattle.lease_table.proofs.FewOwners.{few_committed}
use Rattle.cluster.specs.continued.Jobs.{from_start}
use Rattle.cluster.specs.Pasts.{table_calls, task_calls}
use Rattle.cluster.proofs.TableRuns.{table_run}
use Rattle.cluster.proofs.TaskAcceptance.{accepted_calls}
use Rattle.cluster.proofs.LiveLeases.{TableFacts}
use Rattle.cluster.proofs.Owning.{owner}
use Rattle.cluster.proofs.laws.owner_law.Goals as goal

pub returns-clause-owner : goal.returns-clause-owner
returns-clause-owner c = λ started past task key within run may.
    let job = from_start started in
    let calls = table_calls past in
    let table = table_run job past run in
    let facts : TableFacts job.policy.skew calls = record {
      newest = λ grant sent. c.leases_law.ensures.generation job.policy calls grant within table sent;
      guard = λ grant sent kind. c.leases_law.ensures.guard job.policy calls grant within table sent kind;
      skewed = λ grant sent. c.leases_law.ensures.skew job.policy calls grant within table sent;
      young = λ grant out. c.rows_law.ensures.generation job.policy calls grant table out;
      committed = c.assignments_law.ensures.committed calls;
    } in
    owner c.covering_lease_law.ensures.allowed job past task key run facts (c.held_law.ensures task (task_calls task past) (accepted_calls job past task run)) may

pub returns-clause-one : goal.returns-clause-one
returns-clause-one c = λ started past task other key within single run may also.
    let job = from_start started in
    let calls = table_calls past in
    let few = c.assignments_law.ensures.few job.policy calls (commits_in calls) (table_run job past run) in
    let alone = few_committed job.policy (committed_in calls) (assignment_in (commits_in calls) calls) single (c.assignments_law.ensures.committed calls) few in
    c.one_owner_law.ensures (slices_of (committed_in calls)) key task other alone
    (returns-clause-owner c started past task key within run may) (returns-clause-owner c started past other key within run also)
