-- Replies that are known by name.
use Rattle.std.proofs.Common.{◌≡◌, ℕ, subst}
use Rattle.std.specs.Prelude.{Result, Ok}
use Rattle.machines.specs.declared.event.Event.{Event}
use Rattle.history_lock.specs.Passes.{Lock, PassView}
use Rattle.tickets.specs.Tickets.{TicketPassView}
use Rattle.shared_objects.specs.Calls.{Writes}

module _ {M C R F : Type 0} (step : M → Event C → Result (M × R) F) (lock : Lock M) (old_draws new_draws : TicketPassView) (call : ℕ → C) where
  pub named_answer : (old : PassView M (Event C)) (reply named : R) (new : PassView M (Event C)) → reply ≡ named
      → Writes step lock old_draws new_draws call old (Ok reply) new → Writes step lock old_draws new_draws call old (Ok named) new
  named_answer old reply named new is w = subst (λ (answer : R). Writes step lock old_draws new_draws call old (Ok answer) new) is w
