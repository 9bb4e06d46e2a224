-- The requests that steps served are requests that their calls served.
use Rattle.std.proofs.Common.{◌≡◌, ℕ, ◌<◌, true, List, [], ◌∷◌, refl, sym, ◌∙◌, ap, subst, inl, inr, ◌⊎◌}
use Rattle.std.specs.Prelude.{Result, Ok, Err}
use Rattle.machines.proofs.Every.{all_weaker}
use Rattle.slice_ranges.specs.Hash.{slice_key}
use Rattle.job_calls.specs.declared.call.ClusterCall.{ClusterCall}
use Rattle.job_calls.specs.declared.call.ClusterCall.TheVariants as call
use Rattle.cluster.specs.Pasts.{Event as ClusterEvent, event as cluster_event, Past as ClusterPast}
use Rattle.fence.specs.Requests.{Request as CallRequest}
use Rattle.job_fence.specs.Requests.{IsServed as IsServedCall, Serves as ServesCall, ServesInTurn as ServesCallsInTurn}
use Rattle.job_fence.specs.Stores.{IsServedIn, AreServed as AreServedCalls}
use Rattle.world.specs.Jobs.{Job}
use Rattle.world.specs.declared.step.Step.{Step}
use Rattle.replies.specs.declared.reply.Refusal.{Refusal}
use Rattle.replies.specs.declared.reply.Reply.{Reply}
use Rattle.replies.specs.declared.reply.Reply.TheVariants as reply
use Rattle.world.specs.Pasts.{Event, Past, is_accepted}
use Rattle.world.specs.Calls.{call_of, answered, unless_out_of_memory, with_call, calls_in}
use Rattle.world_fence.specs.Requests.{Request, by_slice_key, IsServed, Serves, ServesInTurn, IsOfRequest, AreServed}

-- the call of a step that was accepted is among the calls
accepted_call : (answer : Reply) (x : ClusterEvent) (calls : ClusterPast) → is_accepted answer ≡ true → unless_out_of_memory answer x calls ≡ x ∷ calls
accepted_call reply.NoMemory x calls e = absurd (cc)
accepted_call _ x calls e = refl

module _ (job : Job) (epoch : ℕ) where
  -- a step that was asked for a key made a call that was
  pub record IsCalled (past : Past) (e : Event) (r : Request) : Type 0 where
    pub made : ClusterEvent
    pub is : calls_in job (e ∷ past) ≡ made ∷ calls_in job past
    pub served : IsServedCall job epoch (calls_in job past) made (by_slice_key r)

  called_as : (past : Past) (e : Event) (c : ClusterCall) → call_of job past (calls_in job past) e.step ≡ Ok c → is_accepted e.reply ≡ true
      → calls_in job (e ∷ past) ≡ cluster_event c (answered e.reply) ∷ calls_in job past
  called_as past e c made accepted =
      ap (λ (o : Result ClusterCall Refusal). with_call e.reply o (calls_in job past)) made
      ∙ accepted_call e.reply (cluster_event c (answered e.reply)) (calls_in job past) accepted

  pub called : (past : Past) (e : Event) (r : Request) → IsServed job epoch past e r → IsCalled past e r
  called past e r s =
      elim s.asked [
        | inl serve ↦ record {
          made = cluster_event (call.Serve r.task (slice_key r.key) s.at) (answered e.reply);
          is = called_as past e (call.Serve r.task (slice_key r.key) s.at) (ap (λ (x : Step). call_of job past (calls_in job past) x) serve) s.accepted;
          served = record { at = s.at; asked = inl refl; token = s.token };
        }
        | inr hold ↦ record {
          made = cluster_event (call.Hold r.task (slice_key r.key) s.at) (answered e.reply);
          is = called_as past e (call.Hold r.task (slice_key r.key) s.at) (ap (λ (x : Step). call_of job past (calls_in job past) x) hold) s.accepted;
          served = record { at = s.at; asked = inr refl; token = s.token };
        }
      ]

  -- more steps make more calls
  module _ (P : ClusterPast → Type 0) (more : (x : ClusterEvent) (calls : ClusterPast) → P calls → P (x ∷ calls)) where
    with_event : (answer : Reply) (x : ClusterEvent) (calls : ClusterPast) → P calls → P (unless_out_of_memory answer x calls)
    with_event reply.NoMemory x calls p = p
    with_event _ x calls p = more x calls p

    with_one : (answer : Reply) (o : Result ClusterCall Refusal) (calls : ClusterPast) → P calls → P (with_call answer o calls)
    with_one answer (Err why) calls p = p
    with_one answer (Ok made) calls p = with_event answer (cluster_event made (answered answer)) calls p

    kept_later : (past : Past) (e : Event) → P (calls_in job past) → P (calls_in job (e ∷ past))
    kept_later past e p = with_one e.reply (call_of job past (calls_in job past) e.step) (calls_in job past) p

  pub serves_calls : (run : Past) (r : Request) → Serves job epoch run r → ServesCall job epoch (calls_in job run) (by_slice_key r)
  serves_calls [] r s = absurd s
  serves_calls (e ∷ past) r (inl s) =
      let by = called past e r s in
      subst (λ (calls : ClusterPast). ServesCall job epoch calls (by_slice_key r)) (sym by.is) (inl by.served)
  serves_calls (e ∷ past) r (inr s) =
      kept_later (λ (calls : ClusterPast). ServesCall job epoch calls (by_slice_key r)) (λ x calls p. inr p) past e (serves_calls past r s)

  pub serves_calls_in_turn : (run : Past) (first second : Request) → ServesInTurn job epoch run first second
      → ServesCallsInTurn job epoch (calls_in job run) (by_slice_key first) (by_slice_key second)
  serves_calls_in_turn [] first second turn = absurd turn
  serves_calls_in_turn (e ∷ past) first second (inl both) =
      let by = called past e second both.0 in
      subst (λ (calls : ClusterPast). ServesCallsInTurn job epoch calls (by_slice_key first) (by_slice_key second)) (sym by.is) (inl (by.served, serves_calls past first both.1))
  serves_calls_in_turn (e ∷ past) first second (inr turn) =
      kept_later (λ (calls : ClusterPast). ServesCallsInTurn job epoch calls (by_slice_key first) (by_slice_key second)) (λ x calls p. inr p) past e
      (serves_calls_in_turn past first second turn)

  -- writes of requests that the steps served are of requests that the calls served
  by_call : (run : Past) (key : List ℕ) (write : CallRequest) → IsOfRequest job epoch run key write → ServesCall job epoch (calls_in job run) write × (write.key ≡ slice_key key)
  by_call run key write of = (
    subst (λ (w : CallRequest). ServesCall job epoch (calls_in job run) w) (sym of.is) (serves_calls run of.request of.served),
    ap (λ (w : CallRequest). w.key) of.is ∙ of.alike,
  )

  pub served_calls : (run : Past) (key : List ℕ) (writes : List CallRequest) → AreServed job epoch run key writes
      → AreServedCalls job epoch (calls_in job run) (slice_key key) writes
  served_calls run key writes all =
      all_weaker (λ (w : CallRequest). (w.token.epoch < epoch) ⊎ IsOfRequest job epoch run key w) (IsServedIn job epoch (calls_in job run) (slice_key key)) writes
      (λ w s. elim s [ inl old ↦ inl old | inr of ↦ inr (by_call run key w of) ]) all
