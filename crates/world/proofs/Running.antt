-- The calls of a run of steps are a run of the machines, and a longer past makes more of them.
use Rattle.std.proofs.Common.{◌≡◌, [], ◌∷◌, ◌++◌, refl, sym, ◌∙◌, ap, subst, inl, inr}
use Rattle.std.specs.Prelude.{Result, Ok, Err}
use Rattle.job_calls.specs.declared.call.ClusterCall.{ClusterCall}
use Rattle.cluster.specs.Pasts.{Event as ClusterEvent, Past as ClusterPast}
use Rattle.cluster.specs.Replies.{reply_to as cluster_reply}
use Rattle.cluster.specs.Runs.{IsRun as IsClusterRun}
use Rattle.world.specs.Jobs.{Job}
use Rattle.replies.specs.declared.reply.Refusal.{Refusal}
use Rattle.replies.specs.declared.reply.Reply.{Reply}
use Rattle.replies.specs.declared.reply.Reply.TheVariants as reply
use Rattle.world.specs.Pasts.{Event, Past}
use Rattle.world.specs.Calls.{call_of, unless_out_of_memory, with_call, calls_in}
use Rattle.world.specs.Replies.{is_continuous_in}
use Rattle.world.specs.Runs.{IsReply, IsRun}
use Rattle.world.proofs.Telling.{calls_after}
use Rattle.world.proofs.Asking.{replied_by_call, outcome_of_call}

module _ (job : Job) (past : Past) (e : Event) (answered : IsReply job past e) (before : IsClusterRun job (calls_in job past)) where
  one_more : (o : Result ClusterCall Refusal) → call_of job past (calls_in job past) e.step ≡ o → IsClusterRun job (with_call e.reply o (calls_in job past))
  one_more (Err why) is = before
  one_more (Ok made) is =
      let calls = calls_in job past in
      elim answered [
        | inl given ↦ (
            let kept = is_continuous_in given.0 in
            let r = cluster_reply job calls made kept in
            let after = calls_after job calls past e.step made kept r e.reply is refl (given.2 ∙ replied_by_call job past calls made e.step given.0 is refl) in
            subst (IsClusterRun job) (sym after) ((kept, outcome_of_call job past calls made e.step given.0 is refl given.1, refl), before))
        | inr none ↦ subst (λ (a : Reply). IsClusterRun job (with_call a (Ok made) calls)) (sym none.0) before
      ]

pub calls_run : (job : Job) (past : Past) → IsRun job past → IsClusterRun job (calls_in job past)
calls_run job [] run = tt
calls_run job (e ∷ past) run = one_more job past e run.0 (calls_run job past run.1) (call_of job past (calls_in job past) e.step) refl

-- LONGER PASTS

abbrev pub Extends : ClusterPast → ClusterPast → Type 0
Extends whole before = (later : ClusterPast) × (whole ≡ later ++ before)

one_longer : (answer : Reply) (e : ClusterEvent) (whole before : ClusterPast) → Extends whole before → Extends (unless_out_of_memory answer e whole) before
one_longer reply.NoMemory e whole before h = h
one_longer _ e whole before h = (e ∷ h.0, ap (λ (p : ClusterPast). e ∷ p) h.1)

longer_with : (answer : Reply) (o : Result ClusterCall Refusal) (whole before : ClusterPast) → Extends whole before → Extends (with_call answer o whole) before
longer_with answer (Ok made) whole before h = one_longer answer _ whole before h
longer_with answer (Err why) whole before h = h

pub calls_extend : (job : Job) (more past : Past) → Extends (calls_in job (more ++ past)) (calls_in job past)
calls_extend job [] past = ([], refl)
calls_extend job (e ∷ more) past =
    longer_with e.reply (call_of job (more ++ past) (calls_in job (more ++ past)) e.step) (calls_in job (more ++ past)) (calls_in job past) (calls_extend job more past)
