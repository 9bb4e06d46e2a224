-- A grant tells a reading of the table's clock, and what clocks may be without one.
use Rattle.std.proofs.Common.{◌≡◌, ℕ, ◌+◌, ◌≤◌, List, [], ◌∷◌, refl, sym, ◌∙◌, ap, subst, inl, inr, ◌⊎◌, arith}
use Rattle.std.specs.Prelude.{Option, Some, None, Result, Ok, Err, Contains, false}
use Rattle.std.specs.List.{AllByRecursion}
use Rattle.machines.specs.Calls.{answered_call}
use Rattle.machines.specs.Answers.{with_named_reply}
use Rattle.assignment.specs.Slices.{Slicing}
use Rattle.grants.specs.declared.table_call.TableCall.TheVariants as call
use Rattle.grants.specs.declared.table_call.TableReply.TheVariants.{Granted, Term}
use Rattle.grants.specs.declared.table_error.TableError.{TableError}
use Rattle.grants.specs.declared.values.Grant.{Grant}
use Rattle.grants.specs.declared.values.JobTerm.{JobTerm}
use Rattle.grants.specs.Policies.{Terms}
use Rattle.lease_table.specs.Tables.{Standing}
use Rattle.lease_table.specs.Steps.{grant_with, take_step}
use Rattle.lease_table.specs.Calls.{AnsweredTableCall, pending_in, standing_after, grants_sent}
use Rattle.grants.specs.TableCalls.{reading_of}
use Rattle.lease_table.specs.Runs.{IsRun as IsTableRun}
use Rattle.lease_table.specs.OpenRows.{IsSent}
use Rattle.lease_table.proofs.Acceptance.{IsGranted}
use Rattle.lease_table.proofs.Leases.{granted_by}
use Rattle.lease_table.proofs.Induction.{of_each_sent}
use Rattle.grants.proofs.Members.{here, there, nowhere, first_or_rest}
use Rattle.job_calls.specs.declared.call.ClusterCall.TheVariants as asked
use Rattle.job_calls.specs.declared.error.ClusterError.{ClusterError}
use Rattle.job_calls.specs.declared.error.ClusterError.TheVariants as error
use Rattle.job_calls.specs.declared.reply.ClusterReply.TheVariants as reply
use Rattle.job_calls.specs.declared.timing.Reading.{Reading}
use Rattle.job_calls.specs.declared.timing.Reading.TheVariants.{TableClock, TaskClock}
use Rattle.job_calls.specs.Jobs.{Job}
use Rattle.cluster.specs.Timing.{IsNear, IsTimely}
use Rattle.cluster.specs.Pasts.{Event, event, Past, readings, table_calls, with_answer, standing}
use Rattle.job_calls.specs.Readings.{at_table, reading}
use Rattle.cluster.specs.Promises.{WasRead}
use Rattle.cluster.specs.Deliveries.{table_refusal}
use Rattle.cluster.specs.Replies.{unless, from_machine, reply_to}
use Rattle.cluster.proofs.Adding.{AddsTableCall, adds_to_table}
use Rattle.grant_evidence.specs.Evidence.{sent_at, IsAhead}
use Rattle.job_clocks.specs.Evidence.{IsSilent}

-- AN ACCEPTED GRANT TELLS ITS READING

abbrev HasRead : List AnsweredTableCall → ℕ → Type 0
HasRead [] at = ⊥
HasRead (e ∷ calls) at = (reading_of e.call ≡ Some at) ⊎ HasRead calls at

by_phase : (policy : Terms) (calls : List AnsweredTableCall) (pending : Option Slicing) (task life at : ℕ)
    → sent_at policy (grant_with (standing_after policy calls) pending task life at) ≡ at
by_phase policy calls None task life at = omega arith
by_phase policy calls (Some next) task life at = omega arith

given : (policy : Terms) (calls : List AnsweredTableCall) (grant : Grant) → IsTableRun policy calls → (task life at : ℕ)
    → IsGranted (standing_after policy calls) task life at (Granted grant)
    → HasRead (answered_call (call.Grant task life at) (Ok (Granted grant)) ∷ calls) (sent_at policy grant)
given policy calls grant run task life at granted =
    let same = granted_by (standing_after policy calls) task life at grant granted in
    inl (ap Some (sym (ap (sent_at policy) same ∙ by_phase policy calls (pending_in calls) task life at)))

sent_read : (policy : Terms) (calls : List AnsweredTableCall) → IsTableRun policy calls → (grant : Grant) → IsSent calls grant → HasRead calls (sent_at policy grant)
sent_read policy = of_each_sent policy (λ calls grant. HasRead calls (sent_at policy grant)) (λ calls e grant run sent known. inr known) (given policy)

read_now : (e : Event) (past : Past) (at : ℕ) (new : AddsTableCall past e) → (HasRead (table_calls past) at → WasRead past at)
    → (reading_of new.made ≡ Some at) ⊎ HasRead (table_calls past) at → WasRead (e ∷ past) at
read_now e past at new before (inl read) =
    let same : reading e.call ≡ TableClock at = ap (λ (x : Event). reading x.call) new.is ∙ ap at_table read in
    subst (λ (r : Reading). Contains (readings (e ∷ past)) r) same (here (reading e.call) (readings past))
read_now e past at new before (inr earlier) = there (reading e.call) (TableClock at) (readings past) (before earlier)

in_job : (past : Past) (at : ℕ) → HasRead (table_calls past) at → WasRead past at
in_job [] at has = absurd has
in_job (e ∷ past) at has =
    elim (adds_to_table past e) [
      | inl same ↦ there (reading e.call) (TableClock at) (readings past)
          (in_job past at (subst (λ (calls : List AnsweredTableCall). HasRead calls at) same has))
      | inr new ↦ read_now e past at new (λ earlier. in_job past at earlier) (subst (λ (calls : List AnsweredTableCall). HasRead calls at) new.added has)
    ]

pub sent_was_read : (job : Job) (past : Past) (grant : Grant) → IsTableRun job.policy (table_calls past) → IsSent (table_calls past) grant
    → WasRead past (sent_at job.policy grant)
sent_was_read job past grant run sent = in_job past (sent_at job.policy grant) (sent_read job.policy (table_calls past) run grant sent)

-- A READING THAT IS AHEAD IS NOT TIMELY

near_each : (skew late early : ℕ) (readings : List Reading) → AllByRecursion (IsNear skew (TaskClock late)) readings → Contains readings (TableClock early)
    → early ≤ late + skew
near_each skew late early [] near has = absurd (nowhere (TableClock early) has)
near_each skew late early (first ∷ rest) near has =
    elim (first_or_rest first (TableClock early) rest has) [
      | inl same ↦ (let here : IsNear skew (TaskClock late) (TableClock early) = subst (IsNear skew (TaskClock late)) same near.0 in here)
      | inr later ↦ near_each skew late early rest near.1 later
    ]

pub ahead : (job : Job) (past : Past) (grant : Grant) (at : ℕ) → WasRead past (sent_at job.policy grant) → IsAhead job.policy grant at
    → IsTimely job.policy.skew (TaskClock at ∷ readings past) → ⊥
ahead job past grant at was above timely =
    let low = near_each job.policy.skew at (sent_at job.policy grant) (readings past) timely.0 was in
    omega (arith, low, above)

-- A RUN WITHOUT A GRANT

module _ (at : ℕ) where
  no_grant : (refusal : Option ClusterError) (step : Result (Standing × JobTerm) TableError)
      → grants_sent (with_answer (call.JobTake 1 at) (unless refusal (from_machine error.Table reply.Table (with_named_reply Term step))) []) ≡ []
  no_grant None (Ok taken) = refl
  no_grant None (Err why) = refl
  no_grant (Some why) step = refl

taken : Job → Past
taken job =
    let asked_for = asked.Table (call.JobTake 1 (job.policy.skew + 1)) in
    event asked_for (reply_to job [] asked_for false) ∷ []

pub silent : (job : Job) → IsSilent job
unfolding taken
silent job = record {
  past = taken job;
  at = 0;
  run = ((false, tt, refl), tt);
  silent = no_grant (job.policy.skew + 1) (table_refusal job [] (call.JobTake 1 (job.policy.skew + 1))) (take_step (standing job.policy []) 1 (job.policy.skew + 1));
  late = λ timely. let low = timely.0.0 in omega (arith, low);
}
