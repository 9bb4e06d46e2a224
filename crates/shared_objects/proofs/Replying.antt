-- The replies to calls that are accepted, and the calls that are never refused.
use Rattle.std.proofs.Common.{◌≡◌, ℕ, ◌∙◌, sym, ap, subst}
use Rattle.std.specs.Prelude.{Result, Ok, Err, IfOk, IfErr, Bool, true, false}
use Rattle.machines.specs.declared.event.Event.{Event}
use Rattle.history_lock.specs.Passes.{Lock, PassView}
use Rattle.tickets.specs.Tickets.{TicketPassView}
use Rattle.job_calls.specs.declared.call.ClusterCall.{ClusterCall}
use Rattle.job_calls.specs.declared.reply.ClusterReply.{ClusterReply}
use Rattle.shared_objects.specs.declared.error.CallError.{CallError}
use Rattle.shared_objects.specs.declared.error.CallError.TheVariants.{Spent, HistoryFull, Refused, NoMemory}
use Rattle.shared_objects.specs.declared.when.When.{When}
use Rattle.shared_objects.specs.Actors.{made_at, reading_at}
use Rattle.shared_objects.specs.Calls.{CalledToWrite, IsNoRefusal}

module _ {M C R F : Type 0} (step : M → Event C → Result (M × R) F) (lock : Lock M) (old_draws new_draws : TicketPassView) (at : C → ℕ → C) (call : C) where
  module _ (IsReply : C → R → Type 0) (replies : (machine : M) (event : Event C) (after : M) (reply : R) → step machine event ≡ Ok (after, reply) → IsReply event.call reply)
      (alike : (call : C) (reading : ℕ) (reply : R) → IsReply (at call reading) reply → IsReply call reply) where
    pub called_reply : (when : When) (recorded : ℕ → ClusterCall) (told : F → ClusterReply) (old : PassView M (Event C)) (result : Result R (CallError F)) (new : PassView M (Event C))
        → CalledToWrite step lock old_draws new_draws (λ ticket. made_at at when call ticket) recorded told old result new → IfOk result (λ reply. IsReply call reply)
    called_reply when recorded told old (Ok reply) new w =
        let k = w.wrote in alike call (reading_at when k.event.ticket) reply (subst (λ c. IsReply c reply) k.calls.made (replies k.before k.event k.after reply k.takes))
    called_reply when recorded told old (Err error) new w = tt

  module _ (may_refuse : C → Bool) (refuses : (machine : M) (event : Event C) (fault : F) → step machine event ≡ Err fault → may_refuse event.call ≡ true)
      (alike : (call : C) (reading : ℕ) → may_refuse (at call reading) ≡ may_refuse call) where
    never_refused : (when : When) (recorded : ℕ → ClusterCall) (told : F → ClusterReply) (old : PassView M (Event C)) (error : CallError F) (new : PassView M (Event C))
        → CalledToWrite step lock old_draws new_draws (λ ticket. made_at at when call ticket) recorded told old (Err error) new → may_refuse call ≡ false → IsNoRefusal error
    never_refused when recorded told old Spent new w accepts = tt
    never_refused when recorded told old HistoryFull new w accepts = tt
    never_refused when recorded told old NoMemory new w accepts = tt
    never_refused when recorded told old (Refused why) new w accepts =
        let r = w.3.wrote in
        let may : may_refuse call ≡ true = sym (ap may_refuse r.calls.made ∙ alike call (reading_at when w.0.ticket)) ∙ refuses r.machine w.0 w.1 r.refuses in
        let no : false ≡ true = sym accepts ∙ may in absurd (cc)

    pub called_unrefused : (when : When) (recorded : ℕ → ClusterCall) (told : F → ClusterReply) (old : PassView M (Event C)) (result : Result R (CallError F)) (new : PassView M (Event C))
        → CalledToWrite step lock old_draws new_draws (λ ticket. made_at at when call ticket) recorded told old result new → IfErr result (λ error. may_refuse call ≡ false → IsNoRefusal error)
    called_unrefused when recorded told old (Ok reply) new w = tt
    called_unrefused when recorded told old (Err error) new w = λ accepts. never_refused when recorded told old error new w accepts
