-- Calls leave a pass in its lane.
use Rattle.std.proofs.Common.{◌≡◌, ℕ, ◌∙◌, ap}
use Rattle.std.specs.Prelude.{Result, Ok, Err, Option, List}
use Rattle.assignment.specs.Slices.{Slicing}
use Rattle.machines.specs.declared.event.Event.{Event}
use Rattle.history_lock.specs.Passes.{Lock, PassView}
use Rattle.history_lock.specs.Answers.{HasWaited, IsShown, Wrote}
use Rattle.history_lock.specs.declared.error.WriteError.{WriteError}
use Rattle.history_lock.specs.declared.error.WriteError.TheVariants as write_error
use Rattle.lease_table.specs.Calls.{event_step as table_step}
use Rattle.lease_table.specs.Tables.{Standing}
use Rattle.grants.specs.declared.table_call.TableCall.{TableCall}
use Rattle.grants.specs.declared.values.Row.{Row}
use Rattle.tickets.specs.Tickets.{TicketPassView}
use Rattle.job_calls.specs.declared.call.ClusterCall.{ClusterCall}
use Rattle.job_calls.specs.declared.reply.ClusterReply.{ClusterReply}
use Rattle.tickets.specs.declared.ticket.Spent.{Spent}
use Rattle.shared_objects.specs.declared.error.CallError.{CallError}
use Rattle.shared_objects.specs.declared.error.CallError.TheVariants as call_error
use Rattle.shared_objects.specs.declared.error.Recorded.{Recorded}
use Rattle.shared_objects.specs.declared.error.RowsError.{RowsError}
use Rattle.shared_objects.specs.declared.error.RowsError.TheVariants as rows_error
use Rattle.shared_objects.specs.Calls.{Writes, CalledToWrite, Asks, AsksFor, CalledToAsk}
use Rattle.shared_objects.specs.Objects.{AskedForRows, AskedForCommitted}

module _ {M E : Type 0} where
  abbrev lane_of : PassView M E → ℕ
  lane_of pass = pass.lane

  waited_lane : (lock : Lock M) (old new : PassView M E) → HasWaited lock old new → new.lane ≡ old.lane
  waited_lane lock old new w = ap lane_of w.only

module _ {M E R F : Type 0} (step : M → E → Result (M × R) F) (lock : Lock M) where
  shown_lane : (old : PassView M E) (machine : M) (new : PassView M E) → IsShown step lock old machine new → new.lane ≡ old.lane
  shown_lane old machine new s = ap lane_of s.only

  wrote_lane : (made : E → Type 0) (unmade : Type 0) (old : PassView M E) (answer : Result R (WriteError E F)) (new : PassView M E) → Wrote step lock made unmade old answer new
      → new.lane ≡ old.lane
  wrote_lane made unmade old (Ok reply) new w = ap lane_of w.adds ∙ shown_lane old w.before w.shown w.shows
  wrote_lane made unmade old (Err write_error.HistoryFull) new w = shown_lane old w.1.0 new w.1.1
  wrote_lane made unmade old (Err (write_error.Refused event fault)) new w = shown_lane old w.machine new w.shows
  wrote_lane made unmade old (Err write_error.NoMemory) new w = shown_lane old w.machine new w.shows

  module _ (old_draws new_draws : TicketPassView) where
    asks_lane : {T : Type 0} (answers : M → ℕ → T → Type 0) (old : PassView M E) (ticket : ℕ) (answer : T) (new : PassView M E) → Asks step lock old_draws new_draws answers old ticket answer new
        → new.lane ≡ old.lane
    asks_lane answers old ticket answer new w = shown_lane w.late w.shared.0 new w.shared.2 ∙ waited_lane lock old w.late w.waited

    pub asked_lane : {T : Type 0} (answers : M → ℕ → T → Type 0) (recorded : ℕ → ClusterCall) (told : T → ClusterReply) (old : PassView M E) (result : Result (Recorded T) Spent) (new : PassView M E)
        → CalledToAsk old_draws new_draws (AsksFor step lock old_draws new_draws answers recorded told) old result new → new.lane ≡ old.lane
    asked_lane answers recorded told old (Ok asked) new w = asks_lane answers old asked.call.ticket asked.answer new w.0
    asked_lane answers recorded told old (Err spent) new w = ap lane_of w.same

module _ {M C R F : Type 0} (step : M → Event C → Result (M × R) F) (lock : Lock M) (old_draws new_draws : TicketPassView) (call : ℕ → C) where
  writes_lane : (old : PassView M (Event C)) (answer : Result R (WriteError (Event C) F)) (new : PassView M (Event C)) → Writes step lock old_draws new_draws call old answer new → new.lane ≡ old.lane
  writes_lane old answer new w = wrote_lane step lock _ _ w.late answer new w.wrote ∙ waited_lane lock old w.late w.waited

  pub called_lane : (recorded : ℕ → ClusterCall) (told : F → ClusterReply) (old : PassView M (Event C)) (result : Result R (CallError F)) (new : PassView M (Event C))
      → CalledToWrite step lock old_draws new_draws call recorded told old result new → new.lane ≡ old.lane
  called_lane recorded told old (Ok answer) new w = writes_lane old (Ok answer) new w
  called_lane recorded told old (Err call_error.Spent) new w = ap lane_of w.same
  called_lane recorded told old (Err call_error.HistoryFull) new w = writes_lane old (Err write_error.HistoryFull) new w
  called_lane recorded told old (Err (call_error.Refused why)) new w = writes_lane old (Err (write_error.Refused w.0 w.1)) new w.3
  called_lane recorded told old (Err call_error.NoMemory) new w = writes_lane old (Err write_error.NoMemory) new w

module _ (lock : Lock Standing) where
  pub rows_lane : (old_draws new_draws : TicketPassView) (old : PassView Standing (Event TableCall)) (result : Result (Recorded (List Row)) RowsError) (new : PassView Standing (Event TableCall))
      → AskedForRows lock old_draws new_draws old result new → new.lane ≡ old.lane
  rows_lane old_draws new_draws old (Ok asked) new w = asks_lane table_step lock old_draws new_draws _ old asked.call.ticket asked.answer new w.0
  rows_lane old_draws new_draws old (Err rows_error.Spent) new w = ap lane_of w.same
  rows_lane old_draws new_draws old (Err rows_error.NoMemory) new w = asks_lane table_step lock old_draws new_draws _ old w.0 tt new w.1

  pub committed_lane : {F : Type 0} (old : PassView Standing (Event TableCall)) (result : Result (Option Slicing) F) (new : PassView Standing (Event TableCall))
      → AskedForCommitted lock old result new → new.lane ≡ old.lane
  committed_lane old result new w = shown_lane table_step lock w.0 w.2.0 new w.2.2 ∙ waited_lane lock old w.0 w.1
