-- What a `serve` is answered, and that the ends of a run are runs.
use Rattle.std.proofs.Common.{◌≡◌, ℕ, Bool, true, false, List, [], ◌∷◌, ◌++◌, refl, sym, ◌∙◌, ap, subst, inl, inr}
use Rattle.std.specs.Prelude.{IsTrue, ◌↔◌, if◌then◌else◌}
use Rattle.machines.specs.Numbers.{is_within}
use Rattle.slice_ranges.specs.Hash.{slice_key}
use Rattle.lease_rule.specs.declared.answer.Verdict.{Verdict}
use Rattle.grants.specs.declared.slicelet_call.SliceletCall.{SliceletCall}
use Rattle.slicelet.specs.Rules.{is_allowed, rule_after}
use Rattle.job_calls.specs.declared.error.ClusterError.TheVariants as error
use Rattle.job_calls.specs.declared.reply.ClusterReply.TheVariants as machine
use Rattle.cluster.specs.Pasts.{Event as ClusterEvent, Past as ClusterPast, is_accepted as is_accepted_call, task_calls}
use Rattle.cluster.specs.Replies.{covers, rule_in}
use Rattle.cluster.specs.Runs.{IsReply as IsClusterReply, IsRun as IsClusterRun}
use Rattle.cluster.proofs.Adding.{adds_to_task}
use Rattle.cluster.proofs.TaskTurns.{by_none}
use Rattle.world.specs.Jobs.{Job}
use Rattle.world.specs.declared.step.Step.TheVariants as step
use Rattle.replies.specs.declared.reply.Reply.{Reply}
use Rattle.replies.specs.declared.reply.Reply.TheVariants as reply
use Rattle.replies.specs.declared.told.Named.{Named}
use Rattle.replies.specs.declared.told.NextNumbers.{NextNumbers}
use Rattle.world.specs.Pasts.{event, Past, steps_of, IsTimely}
use Rattle.world.specs.Calls.{calls_in}
use Rattle.world.specs.Replies.{Plain, named, next_numbers, reply_to}
use Rattle.replies.specs.Told.{told_as}
use Rattle.world.specs.Runs.{IsRun}
use Rattle.world.specs.Headline.{is_served, IsServedByRule, MayServe}
use Rattle.world.proofs.Running.{calls_run}

-- what came before a point of a run is a run
pub run_before : (job : Job) (later past : Past) → IsRun job (later ++ past) → IsRun job past
run_before job [] past run = run
run_before job (e ∷ later) past run = run_before job later past run.1

-- A TASK THAT IS NOT OF THE JOB

outside_calls : (job : Job) (calls : ClusterPast) (task : ℕ) → IsClusterRun job calls → is_within task job.tasks ≡ false → task_calls task calls ≡ []
outside_calls job [] task run outside = refl
outside_calls job (e ∷ calls) task run outside =
    elim (adds_to_task task calls e) [
      | inl same ↦ same ∙ outside_calls job calls task run.1 outside
      | inr new ↦ (
          let told = (subst (λ (x : ClusterEvent). IsClusterReply job calls x) new.is run.0).2 ∙ by_none task job.tasks _ outside in
          absurd (let f : false ≡ true = sym (ap is_accepted_call told) ∙ new.accepted in cc))
    ]

-- the rule denies it every key, since it was told nothing
denied_outside : (job : Job) (calls : ClusterPast) (task key at : ℕ) → IsClusterRun job calls → is_within task job.tasks ≡ false → is_allowed (rule_in calls task key at) ≡ false
denied_outside job calls task key at run outside =
    ap (λ (h : List SliceletCall). is_allowed (rule_after (covers calls key) h at)) (outside_calls job calls task run outside)

-- WHAT A SERVE IS TOLD

module _ (n : Named) (next : NextNumbers) where
  told_verdict : (b : Bool) (v : Verdict) → b ≡ true → told_as n next (if b then machine.Verdict v else machine.Refused error.NoActor) ≡ reply.Verdict v
  told_verdict true v e = refl
  told_verdict false v e = absurd (let f : false ≡ true = e in cc)

  told_allowed : (b : Bool) (v : Verdict) → (b ≡ false → is_allowed v ≡ false)
      → is_served (told_as n next (if b then machine.Verdict v else machine.Refused error.NoActor)) ≡ is_allowed v
  told_allowed true v denied = refl
  told_allowed false v denied = sym (denied refl)

module _ (job : Job) (past : Past) (task : ℕ) (key : List ℕ) where
  pub serve_allowed : (at : ℕ) → IsRun job past
      → is_served (reply_to job past (step.Serve task key at) Plain) ≡ is_allowed (rule_in (calls_in job past) task (slice_key key) at)
  serve_allowed at run =
      let calls = calls_in job past in
      told_allowed (named (step.Serve task key at)) (next_numbers calls) (is_within task job.tasks) (rule_in calls task (slice_key key) at)
      (λ outside. denied_outside job calls task (slice_key key) at (calls_run job past run) outside)

  -- a `serve` takes no memory, so that its reply is the rule's
  pub served_by_rule : (at : ℕ) (answer : Reply) → IsRun job (event (step.Serve task key at) answer ∷ past) → IsServedByRule job past task key at answer
  served_by_rule at answer run =
      elim run.0 [
        | inl answered ↦ (
            let calls = calls_in job past in
            let same : is_served answer ≡ is_allowed (rule_in calls task (slice_key key) at) = ap is_served answered.2 ∙ serve_allowed at run.1 in
            record {
              served = (λ served. sym same ∙ served, λ allowed. same ∙ allowed);
              verdict = λ inside.
                  answered.2 ∙ told_verdict (named (step.Serve task key at)) (next_numbers calls) (is_within task job.tasks) (rule_in calls task (slice_key key) at) inside;
            })
        | inr none ↦ absurd (let f : false ≡ true = none.1 in cc)
      ]

  pub may_be_served : IsRun job past → MayServe job past task key
      ↔ ((at : ℕ) × IsTimely job.policy.skew (step.Serve task key at ∷ steps_of past) × IsTrue (is_served (reply_to job past (step.Serve task key at) Plain)))
  may_be_served run = (λ may. (may.0, may.1, serve_allowed may.0 run ∙ may.2), λ may. (may.0, may.1, sym (serve_allowed may.0 run) ∙ may.2))
