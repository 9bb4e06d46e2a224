-- What calls draw, and what their records hold.
use Rattle.std.specs.Prelude.{◌≡◌, ℕ, ◌<◌, length}
use Rattle.machines.specs.declared.event.Event.{Event}
use Rattle.tickets.specs.Tickets.{TicketPassView, IsDrawn}
use Rattle.job_calls.specs.declared.record.CallRecord.{CallRecord}
use Rattle.job_calls.specs.declared.call.ClusterCall.{ClusterCall}
use Rattle.job_calls.specs.declared.reply.ClusterReply.{ClusterReply}
use Rattle.shared_objects.specs.declared.error.RefusedCall.{RefusedCall}

-- the ticket pass has draws left
abbrev pub CanDraw : TicketPassView → Type 0
CanDraw pass = length pass.drawn < pass.terms.quota

-- it has none
abbrev pub IsSpent : TicketPassView → Type 0
IsSpent pass = length pass.drawn ≡ pass.terms.quota

-- the ticket pass drew once, and the event is the call at that draw
pub record DrewFor {C : Type 0} (call : ℕ → C) (old : TicketPassView) (event : Event C) (new : TicketPassView) : Type 0 where
  pub drawn : IsDrawn old event.ticket new
  pub made : event.call ≡ call event.ticket

-- the ticket pass drew once, and the record holds that draw, the call at it and what the caller was told
pub record IsRecorded (step : ℕ → ClusterCall) (reply : ClusterReply) (old : TicketPassView) (entry : CallRecord) (new : TicketPassView) : Type 0 where
  pub drawn : IsDrawn old entry.ticket new
  pub called : entry.step ≡ step entry.ticket
  pub told : entry.reply ≡ reply

-- a refusal hands out the machine's fault, and the record of the call
pub record IsRefusal {F : Type 0} (step : ℕ → ClusterCall) (told : F → ClusterReply) (old : TicketPassView) (fault : F) (why : RefusedCall F) (new : TicketPassView) : Type 0 where
  pub fault_is : why.fault ≡ fault
  pub recorded : IsRecorded step (told fault) old why.call new
