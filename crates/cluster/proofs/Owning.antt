-- Whoever may serve a key owns it in the committed assignment.
use Rattle.std.proofs.Common.{ℕ, ◌+◌, ◌≤◌, refl, subst, inl, inr, arith}
use Rattle.std.specs.Prelude.{Contains}
use Rattle.std.specs.List.{AllByRecursion}
use Rattle.lease_table.specs.Calls.{last_reading}
use Rattle.slicelet.specs.Accepted.{notes_sent}
use Rattle.slicelet.specs.Laws.{HoldsOwnLeases}
use Rattle.cluster.specs.continued.Jobs.{Continued, job_in}
use Rattle.job_calls.specs.declared.timing.Reading.TheVariants.{TableClock, TaskClock}
use Rattle.cluster.specs.Timing.{IsNear}
use Rattle.cluster.specs.Pasts.{Past, readings, table_calls, task_calls}
use Rattle.cluster.specs.Answers.{covers, rule_in}
use Rattle.cluster.specs.continued.Runs.{IsRun}
use Rattle.cluster.specs.Headline.{MayServe, IsOwner}
use Rattle.cluster.proofs.Noting.{member, freed_note_sent}
use Rattle.cluster.proofs.TableReadings.{last_read}
use Rattle.cluster.proofs.Sending.{held_sent}
use Rattle.cluster.proofs.LiveLeases.{TableFacts, FreesSentNotes, Covering, by_verdict, lease_owner}

-- the table's clock is by at most the skew above a timely reading of a task
pub last_near : (past : Past) (skew at : ℕ) → AllByRecursion (IsNear skew (TaskClock at)) (readings past) → last_reading (table_calls past) ≤ at + skew
last_near past skew at all =
    elim (last_read past) [
      | inl zero ↦ omega (arith, zero)
      | inr was ↦ member (IsNear skew (TaskClock at)) (readings past) (TableClock (last_reading (table_calls past))) all was
    ]

-- each note of a task that was freed is one of those that it sent
pub frees_sent_notes : (job : Continued) (past : Past) (task : ℕ) → IsRun job past → FreesSentNotes (table_calls past) task (task_calls task past)
frees_sent_notes job past task run note at answer of_task i =
    subst (λ (t : ℕ). Contains (notes_sent t (task_calls t past)) note) of_task (freed_note_sent job past note at answer run i)

pub owner : Covering → (job : Continued) (past : Past) (task key : ℕ) → IsRun job past → TableFacts job.policy.skew (table_calls past)
    → HoldsOwnLeases task (task_calls task past) → MayServe (job_in job) past task key → IsOwner past task key
owner covering job past task key run table own may =
    let at = may.0 in
    let by = by_verdict covering (covers past key) (task_calls task past) at (rule_in past task key at) refl may.2 in
    let lease = by.2 in
    lease_owner job.policy.skew (table_calls past) task (task_calls task past) key at by.0 lease.grant table (frees_sent_notes job past task run) own
    (held_sent job task past by.0 lease.grant run lease.is_held) (last_near past job.policy.skew at may.1.0) lease.is_held lease.live lease.covered
