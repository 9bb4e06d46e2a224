-- A call that writes is not recorded as one of a key that a task is asked for.
use Rattle.std.proofs.Common.{◌≡◌, ℕ, ◌∙◌, ap}
use Rattle.std.specs.Prelude.{Result, Ok, Err, false}
use Rattle.machines.specs.declared.event.Event.{Event}
use Rattle.history_lock.specs.Passes.{Lock, PassView}
use Rattle.tickets.specs.Tickets.{TicketPassView}
use Rattle.job_calls.specs.declared.call.ClusterCall.{ClusterCall}
use Rattle.job_calls.specs.declared.reply.ClusterReply.{ClusterReply}
use Rattle.shared_objects.specs.declared.error.CallError.{CallError}
use Rattle.shared_objects.specs.declared.error.CallError.TheVariants.{Spent, HistoryFull, Refused, NoMemory}
use Rattle.shared_objects.specs.Calls.{CalledToWrite}
use Rattle.live_run.specs.Reports.{is_serve}
use Rattle.live_run.specs.internals.Notes.{RefusesNoServe}

module _ {M C R F : Type 0} (step : M → Event C → Result (M × R) F) (lock : Lock M) (old_draws new_draws : TicketPassView) (call : ℕ → C) where
  pub called_quiet : (recorded : ℕ → ClusterCall) (told : F → ClusterReply) → ((ticket : ℕ) → is_serve (recorded ticket) ≡ false)
      → (old : PassView M (Event C)) (result : Result R (CallError F)) (new : PassView M (Event C))
      → CalledToWrite step lock old_draws new_draws call recorded told old result new → RefusesNoServe result
  called_quiet recorded told quiet old (Ok answer) new w = tt
  called_quiet recorded told quiet old (Err Spent) new w = tt
  called_quiet recorded told quiet old (Err HistoryFull) new w = tt
  called_quiet recorded told quiet old (Err (Refused why)) new w = ap is_serve w.2.recorded.called ∙ quiet why.call.ticket
  called_quiet recorded told quiet old (Err NoMemory) new w = tt
