-- What a refused call leaves of a record.
use Rattle.std.proofs.Common.{◌≡◌, ℕ, ◌∷◌, refl, sym, ◌∙◌}
use Rattle.std.specs.Prelude.{Option, Some, None}
use Rattle.grants.specs.declared.slicelet_call.SliceletCall.{SliceletCall}
use Rattle.grants.specs.SliceletCalls.{clock_reading}
use Rattle.clerk.specs.declared.call.ClerkCall.{ClerkCall}
use Rattle.job_calls.specs.declared.call.ClusterCall.TheVariants as call
use Rattle.job_calls.specs.declared.error.ClusterError.{ClusterError}
use Rattle.job_calls.specs.declared.reply.ClusterReply.TheVariants as reply
use Rattle.job_calls.specs.Jobs.{Job}
use Rattle.cluster.specs.Pasts.{event, Past, readings}
use Rattle.job_calls.specs.Readings.{at_task}
use Rattle.cluster.specs.Timing.{greater_reading, greatest_reading}
use Rattle.run_record.specs.Records.{IsRecordOf}
use Rattle.run_record.specs.declared.run_record.RunRecord.{RunRecord}
use Rattle.run_record.proofs.Clerks.{clerks_still}
use Rattle.run_record.proofs.Tasks.{all_still, tasks_still}

-- a call of a task does not read the table's clock
unread : (at : Option ℕ) (greatest : ℕ) → greater_reading (at_task at) greatest ≡ greatest
unread None greatest = refl
unread (Some at) greatest = refl

module _ (job : Job) (past : Past) (r : RunRecord) (is : IsRecordOf job past r) (by : ℕ) (why : ClusterError) where
  pub task_refused : (c : SliceletCall) → IsRecordOf job (event (call.Task by c) (reply.Refused why) ∷ past) r
  task_refused c = record {
    tasks = tasks_still past by c (reply.Refused why) job.tasks r.tasks.items refl is.tasks;
    clerks = is.clerks;
    grants = is.grants;
    assignments = is.assignments;
    notes = is.notes;
    handles = is.handles;
    reading = is.reading ∙ sym (unread (clock_reading c) (greatest_reading (readings past)));
  }

  pub clerk_refused : (c : ClerkCall) → IsRecordOf job (event (call.Clerk by c) (reply.Refused why) ∷ past) r
  clerk_refused c = record {
    tasks = all_still past (event (call.Clerk by c) (reply.Refused why)) job.tasks r.tasks.items (λ n. refl) is.tasks;
    clerks = clerks_still past by c (reply.Refused why) job.clerks r.clerks.items refl is.clerks;
    grants = is.grants;
    assignments = is.assignments;
    notes = is.notes;
    handles = is.handles;
    reading = is.reading;
  }
