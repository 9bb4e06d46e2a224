-- Writes whose events are drawn.
use Rattle.std.proofs.Common.{◌≡◌, ℕ, ◌∙◌, ⊎_elim, inl, inr, sym, ap, subst}
use Rattle.std.specs.Prelude.{Result, Ok, Err}
use Rattle.machines.specs.declared.event.Event.{Event}
use Rattle.history_lock.specs.Passes.{Lock, PassView}
use Rattle.history_lock.specs.Answers.{HasWaited, Wrote}
use Rattle.history_lock.specs.declared.error.WriteError.{WriteError}
use Rattle.history_lock.specs.declared.error.WriteError.TheVariants.{HistoryFull, Refused, NoMemory}
use Rattle.tickets.specs.Tickets.{TicketPassView, IsDrawn}
use Rattle.job_calls.specs.declared.call.ClusterCall.{ClusterCall}
use Rattle.job_calls.specs.declared.reply.ClusterReply.{ClusterReply}
use Rattle.shared_objects.specs.declared.error.RefusedCall.{RefusedCall}
use Rattle.shared_objects.specs.Draws.{CanDraw, DrewFor, IsRefusal}
use Rattle.shared_objects.specs.Calls.{Writes}

-- what is known of the event may be said otherwise
module _ {M E R F : Type 0} (step : M → E → Result (M × R) F) (lock : Lock M) (made said : E → Type 0) (unmade unsaid : Type 0) (on : (e : E) → made e → said e) (off : unmade → unsaid) where
  pub wrote_as : (old : PassView M E) (answer : Result R (WriteError E F)) (new : PassView M E) → Wrote step lock made unmade old answer new → Wrote step lock said unsaid old answer new
  wrote_as old (Ok reply) new w = record {
    event = w.event;
    before = w.before;
    after = w.after;
    shown = w.shown;
    calls = on w.event w.calls;
    shows = w.shows;
    room = w.room;
    takes = w.takes;
    adds = w.adds;
    legal = w.legal;
  }
  wrote_as old (Err HistoryFull) new w = (off w.0, w.1, w.2)
  wrote_as old (Err (Refused event fault)) new w = record {
    machine = w.machine;
    calls = on event w.calls;
    shows = w.shows;
    room = w.room;
    refuses = w.refuses;
  }
  wrote_as old (Err NoMemory) new w = record {
    machine = w.machine;
    shows = w.shows;
    room = w.room;
    calls = ⊎_elim (λ a. inl (off a)) (λ b. inr (b.0, on b.0 b.1, b.2)) w.calls;
  }

module _ {M C R F : Type 0} (step : M → Event C → Result (M × R) F) (lock : Lock M) (old_draws new_draws : TicketPassView) (call : ℕ → C) where
  module _ (made : Event C → Type 0) (unmade : Type 0) where
    -- a write of the lock whose event is drawn, or not made
    pub drawn_write : (old : PassView M (Event C)) (answer : Result R (WriteError (Event C) F)) (new : PassView M (Event C))
        → (late : PassView M (Event C)) × HasWaited lock old late × Wrote step lock made unmade late answer new
        → CanDraw old_draws → ((event : Event C) → made event → DrewFor call old_draws event new_draws) → (unmade → new_draws ≡ old_draws)
        → Writes step lock old_draws new_draws call old answer new
    drawn_write old answer new w could on off = record {
      could = could;
      late = w.0;
      waited = w.1;
      wrote = wrote_as step lock made (λ event. DrewFor call old_draws event new_draws) unmade (new_draws ≡ old_draws) on off w.0 answer new w.2;
    }

    -- a refused write of the lock whose event is drawn, and the record of its refusal, made from the event that it hands back
    pub refused_write : (old : PassView M (Event C)) (event : Event C) (fault : F) (new : PassView M (Event C))
        → (late : PassView M (Event C)) × HasWaited lock old late × Wrote step lock made unmade late (Err (Refused event fault)) new
        → CanDraw old_draws → ((event : Event C) → made event → DrewFor call old_draws event new_draws) → (unmade → new_draws ≡ old_draws)
        → (entry_of : C → ClusterCall) (told : F → ClusterReply) (why : RefusedCall F)
        → why.fault ≡ fault → why.call.ticket ≡ event.ticket → why.call.step ≡ entry_of event.call → why.call.reply ≡ told fault
        → (given : Event C) × (refusal : F) × IsRefusal (λ ticket. entry_of (call ticket)) told old_draws refusal why new_draws × Writes step lock old_draws new_draws call old (Err (Refused given refusal)) new
    refused_write old event fault new w could on off entry_of told why fault_is ticket_is step_is reply_is =
        let drew = on event w.2.calls in (
          event,
          fault,
          record {
            fault_is = fault_is;
            recorded = record {
              drawn = subst (λ ticket. IsDrawn old_draws ticket new_draws) (sym ticket_is) drew.drawn;
              called = step_is ∙ ap entry_of (drew.made ∙ ap call (sym ticket_is));
              told = reply_is;
            };
          },
          drawn_write old (Err (Refused event fault)) new w could on off,
        )
