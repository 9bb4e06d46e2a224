-- What a thread answers of a call, and what it notes.
use Rattle.std.proofs.Common.{◌≡◌, ℕ, sym}
use Rattle.std.specs.Prelude.{Result, Ok, Err}
use Rattle.machines.specs.declared.event.Event.{Event}
use Rattle.history_lock.specs.Passes.{Lock, PassView}
use Rattle.tickets.specs.Tickets.{TicketPassView}
use Rattle.job_calls.specs.declared.call.ClusterCall.{ClusterCall}
use Rattle.job_calls.specs.declared.reply.ClusterReply.{ClusterReply}
use Rattle.shared_objects.specs.declared.error.CallError.{CallError}
use Rattle.live_run.specs.declared.notes.Halt.{Halt}
use Rattle.live_run.specs.declared.notes.Halt.TheVariants as halt
use Rattle.live_run.specs.declared.notes.Notes.{Notes}
use Rattle.shared_objects.specs.Calls.{CalledToWrite}
use Rattle.live_run.specs.internals.Notes.{IsNoted, CalledAndNoted}

module _ {M C R F : Type 0} (step : M → Event C → Result (M × R) F) (lock : Lock M) (old_draws new_draws : TicketPassView) (call : ℕ → C) (recorded : ℕ → ClusterCall) (told : F → ClusterReply) where
  pub called_noted : (old : PassView M (Event C)) (old_notes : Notes) (answer : Result R (CallError F)) (result : Result R Halt) (new : PassView M (Event C)) (new_notes : Notes)
      → CalledToWrite step lock old_draws new_draws call recorded told old answer new → IsNoted answer old_notes result new_notes
      → CalledAndNoted step lock old_draws new_draws call recorded told old old_notes result new new_notes
  called_noted old old_notes (Ok answer) (Ok value) new new_notes called noted =
      let same : answer ≡ value = cc in (rw (sym same) called, noted.1)
  called_noted old old_notes (Err error) (Ok value) new new_notes called noted = absurd (cc)
  called_noted old old_notes (Ok answer) (Err halt.Stopped) new new_notes called noted = absurd noted
  called_noted old old_notes (Err error) (Err halt.Stopped) new new_notes called noted = (error, called, noted)
  called_noted old old_notes answer (Err halt.NoMemory) new new_notes called noted = noted
