-- What records tell of the rule and of handles.
use Rattle.std.proofs.Common.{◌≡◌, ℕ, Bool, true, false, List, ◌∷◌, refl, sym, ◌∙◌, ap, subst}
use Rattle.std.specs.Prelude.{IsTrue, ◌↔◌, Some, Result, Ok, Err, if◌then◌else◌}
use Rattle.machines.specs.Numbers.{is_within}
use Rattle.lease_rule.specs.declared.answer.Ground.{Ground}
use Rattle.lease_rule.specs.declared.answer.Verdict.{Verdict}
use Rattle.lease_rule.specs.declared.answer.Verdict.TheVariants.{Allow, Deny}
use Rattle.lease_rule.specs.declared.lease.Kind.{Kind}
use Rattle.key_handle.specs.declared.handle.KeyHandle.{KeyHandle}
use Rattle.slicelet.specs.Rules.{is_allowed}
use Rattle.slicelet.specs.Continuity.{IsContinuous, handle_on, held_by, is_strange}
use Rattle.job_calls.specs.Jobs.{Job}
use Rattle.job_calls.specs.declared.error.ClusterError.TheVariants as error
use Rattle.job_calls.specs.declared.call.ClusterCall.{ClusterCall}
use Rattle.job_calls.specs.declared.call.ClusterCall.TheVariants as call
use Rattle.job_calls.specs.declared.reply.ClusterReply.{ClusterReply}
use Rattle.job_calls.specs.declared.reply.ClusterReply.TheVariants as reply
use Rattle.cluster.specs.Pasts.{event, Past, readings, task_calls, history}
use Rattle.cluster.specs.Timing.{IsTimely}
use Rattle.cluster.specs.Deliveries.{is_given}
use Rattle.cluster.specs.Replies.{covers, rule_in, hold_reply, check_reply}
use Rattle.cluster.specs.Runs.{IsReply}
use Rattle.cluster.specs.Headline.{MayServe}
use Rattle.audit.specs.OneRun.{Turn, Fits}
use Rattle.audit.specs.Points.{IsPoint}

-- a verdict is that of the rule
ruled : (within : Bool) (said verdict : Verdict) → reply.Verdict said ≡ (if within then reply.Verdict verdict else reply.Refused error.NoActor) → said ≡ verdict
ruled true said verdict e = cc
ruled false said verdict e = absurd (cc)

given_out : (within : Bool) (handle : KeyHandle) (r : Result KeyHandle Ground) → reply.Holding handle ≡ (if within then hold_reply r else reply.Refused error.NoActor) → r ≡ Ok handle
given_out true handle (Ok other) e = cc
given_out true handle (Err why) e = absurd (cc)
given_out false handle r e = absurd (cc)

denied_for : (within : Bool) (why : Ground) (r : Result KeyHandle Ground) → reply.Verdict (Deny why) ≡ (if within then hold_reply r else reply.Refused error.NoActor) → r ≡ Err why
denied_for true why (Ok handle) e = absurd (cc)
denied_for true why (Err other) e = cc
denied_for false why r e = absurd (cc)

module _ (C : Type 0) where
  kept : (within given strange found : Bool) → (within ≡ true → given ≡ true → strange ≡ false → IsTrue found ↔ C)
      → reply.Continuous ≡ (if within then check_reply given strange found else reply.Refused error.NoActor) → C
  kept false given strange found means e = absurd (cc)
  kept true false strange found means e = absurd (cc)
  kept true true true found means e = absurd (cc)
  kept true true false false means e = absurd (cc)
  kept true true false true means e = (means refl refl refl).0 refl

  lost : (within given strange found : Bool) → (within ≡ true → given ≡ true → strange ≡ false → IsTrue found ↔ C)
      → reply.Broken ≡ (if within then check_reply given strange found else reply.Refused error.NoActor) → C → ⊥
  lost false given strange found means e h = absurd (cc)
  lost true false strange found means e h = absurd (cc)
  lost true true true found means e h = absurd (cc)
  lost true true false true means e h = absurd (cc)
  lost true true false false means e h = absurd (let f : false ≡ true = (means refl refl refl).1 h in cc)

module _ (job : Job) (past earlier : Past) (before : List Turn) (turn : Turn) (answer : ClusterReply) (point : IsPoint job past before turn earlier answer) where
  -- what a record's caller was told is the reply to its call
  told_reply : (c : ClusterCall) (told : ClusterReply) → turn.call ≡ c → turn.told ≡ Some told → IsReply job earlier (event c told)
  told_reply c told asked said =
      let fits : answer ≡ told = subst (Fits answer) said point.fits in
      subst (λ (r : ClusterReply). IsReply job earlier (event c r)) fits (subst (λ (x : ClusterCall). IsReply job earlier (event x answer)) asked point.answered.0)

  module _ (task key at : ℕ) where
    pub told_verdict : (verdict : Verdict) → turn.call ≡ call.Serve task key at → turn.told ≡ Some (reply.Verdict verdict) → verdict ≡ rule_in earlier task key at
    told_verdict verdict asked said =
        ruled (is_within task job.tasks) verdict (rule_in earlier task key at) (told_reply (call.Serve task key at) (reply.Verdict verdict) asked said).2

    pub told_handle : (handle : KeyHandle) → turn.call ≡ call.Hold task key at → turn.told ≡ Some (reply.Holding handle)
        → held_by (rule_in earlier task key at) (handle_on key (history task earlier)) ≡ Ok handle
    told_handle handle asked said =
        given_out (is_within task job.tasks) handle (held_by (rule_in earlier task key at) (handle_on key (history task earlier)))
        (told_reply (call.Hold task key at) (reply.Holding handle) asked said).2

    pub told_denial : (why : Ground) → turn.call ≡ call.Hold task key at → turn.told ≡ Some (reply.Verdict (Deny why))
        → held_by (rule_in earlier task key at) (handle_on key (history task earlier)) ≡ Err why
    told_denial why asked said =
        denied_for (is_within task job.tasks) why (held_by (rule_in earlier task key at) (handle_on key (history task earlier)))
        (told_reply (call.Hold task key at) (reply.Verdict (Deny why)) asked said).2

    pub served_may : (generation : ℕ) (kind : Kind) → IsTimely job.policy.skew (readings past)
        → turn.call ≡ call.Serve task key at → turn.told ≡ Some (reply.Verdict (Allow kind generation)) → MayServe job earlier task key
    served_may generation kind timely asked said = (
      at,
      subst (λ (c : ClusterCall). IsTimely job.policy.skew (readings (event c answer ∷ earlier))) asked (point.clocks timely),
      sym (ap is_allowed (told_verdict (Allow kind generation) asked said)),
    )

  module _ (task at : ℕ) (handle : KeyHandle) where
    pub told_continuous : turn.call ≡ call.Check task handle at → turn.told ≡ Some reply.Continuous
        → IsContinuous (covers earlier handle.key) (task_calls task earlier) handle at
    told_continuous asked said =
        let h = told_reply (call.Check task handle at) reply.Continuous asked said in
        kept (IsContinuous (covers earlier handle.key) (task_calls task earlier) handle at) (is_within task job.tasks) (is_given earlier handle)
        (is_strange (history task earlier) handle) h.0 h.1 h.2

    pub told_broken : turn.call ≡ call.Check task handle at → turn.told ≡ Some reply.Broken
        → IsContinuous (covers earlier handle.key) (task_calls task earlier) handle at → ⊥
    told_broken asked said =
        let h = told_reply (call.Check task handle at) reply.Broken asked said in
        lost (IsContinuous (covers earlier handle.key) (task_calls task earlier) handle at) (is_within task job.tasks) (is_given earlier handle)
        (is_strange (history task earlier) handle) h.0 h.1 h.2
