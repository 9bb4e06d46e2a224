-- What the calls of shared objects do to their lock and their ticket pass, and what they answer.
use Rattle.std.specs.Prelude.{◌≡◌, ℕ, Result, Ok, Err}
use Rattle.machines.specs.declared.event.Event.{Event}
use Rattle.history_lock.specs.Histories.{IsLegal}
use Rattle.history_lock.specs.Passes.{Lock, PassView}
use Rattle.history_lock.specs.Answers.{HasWaited, IsTurnedAway, IsWriterAt, Wrote, Shared}
use Rattle.history_lock.specs.declared.error.Busy.{Busy}
use Rattle.history_lock.specs.declared.error.WriteError.{WriteError}
use Rattle.history_lock.specs.declared.error.WriteError.TheVariants as write_error
use Rattle.tickets.specs.Tickets.{TicketPassView, IsDrawn}
use Rattle.job_calls.specs.declared.call.ClusterCall.{ClusterCall}
use Rattle.job_calls.specs.declared.reply.ClusterReply.{ClusterReply}
use Rattle.tickets.specs.declared.ticket.Spent.{Spent}
use Rattle.shared_objects.specs.declared.error.CallError.{CallError}
use Rattle.shared_objects.specs.declared.error.CallError.TheVariants as call_error
use Rattle.shared_objects.specs.declared.error.Recorded.{Recorded}
use Rattle.shared_objects.specs.declared.error.TryError.{TryError}
use Rattle.shared_objects.specs.declared.error.TryError.TheVariants as try_error
use Rattle.shared_objects.specs.Draws.{CanDraw, IsSpent, DrewFor, IsRecorded, IsRefusal}

-- the ticket pass was spent, and the call did nothing
pub record WasSpent {M E : Type 0} (old_draws new_draws : TicketPassView) (old new : PassView M E) : Type 0 where
  pub spent : IsSpent old_draws
  pub draws : new_draws ≡ old_draws
  pub same : new ≡ old

-- the machine did not refuse the call, so that it has no record
abbrev pub IsNoRefusal : {F : Type 0} → CallError F → Type 0
IsNoRefusal (call_error.Refused why) = ⊥
IsNoRefusal error = Unit {0}

module _ {M C R F : Type 0} (step : M → Event C → Result (M × R) F) (lock : Lock M) (old_draws new_draws : TicketPassView) (call : ℕ → C) where
  -- the one write of the lock that a call makes: its event is the call at the draw
  pub record Writes (old : PassView M (Event C)) (answer : Result R (WriteError (Event C) F)) (new : PassView M (Event C)) : Type 0 where
    pub could : CanDraw old_draws
    pub late : PassView M (Event C)
    pub waited : HasWaited lock old late
    pub wrote : Wrote step lock (λ event. DrewFor call old_draws event new_draws) (new_draws ≡ old_draws) late answer new

  module _ (recorded : ℕ → ClusterCall) (told : F → ClusterReply) where
    -- why a call did not write
    abbrev pub WroteNothing : PassView M (Event C) → CallError F → PassView M (Event C) → Type 0
    WroteNothing old call_error.Spent new = WasSpent old_draws new_draws old new
    WroteNothing old call_error.HistoryFull new = Writes old (Err write_error.HistoryFull) new
    WroteNothing old (call_error.Refused why) new =
        (event : Event C) × (fault : F) × IsRefusal recorded told old_draws fault why new_draws × Writes old (Err (write_error.Refused event fault)) new
    WroteNothing old call_error.NoMemory new = Writes old (Err write_error.NoMemory) new

    -- what a call that writes answers
    abbrev pub CalledToWrite : PassView M (Event C) → Result R (CallError F) → PassView M (Event C) → Type 0
    CalledToWrite old (Ok reply) new = Writes old (Ok reply) new
    CalledToWrite old (Err error) new = WroteNothing old error new

module _ {M E R F : Type 0} (step : M → E → Result (M × R) F) (lock : Lock M) (old_draws new_draws : TicketPassView) {T : Type 0} (answers : M → ℕ → T → Type 0) where
  -- the one shared call of the lock that a call makes, which draws once; `answers machine ticket answer`: what the machine answers
  pub record Asks (old : PassView M E) (ticket : ℕ) (answer : T) (new : PassView M E) : Type 0 where
    pub could : CanDraw old_draws
    pub drawn : IsDrawn old_draws ticket new_draws
    pub late : PassView M E
    pub waited : HasWaited lock old late
    pub shared : Shared step lock (λ machine given. answers machine ticket given) late answer new

  -- the same without waiting
  pub record AsksAtOnce (old : PassView M E) (ticket : ℕ) (answer : T) (new : PassView M E) : Type 0 where
    pub could : CanDraw old_draws
    pub drawn : IsDrawn old_draws ticket new_draws
    pub shared : Shared step lock (λ machine given. answers machine ticket given) old answer new

  -- what is handed out of such a call: the answer, and the record of the call
  abbrev pub AsksFor : (ℕ → ClusterCall) → (T → ClusterReply) → PassView M E → Recorded T → PassView M E → Type 0
  AsksFor recorded told old asked new = Asks old asked.call.ticket asked.answer new × IsRecorded recorded (told asked.answer) old_draws asked.call new_draws

  abbrev pub AsksAtOnceFor : (ℕ → ClusterCall) → (T → ClusterReply) → PassView M E → Recorded T → PassView M E → Type 0
  AsksAtOnceFor recorded told old asked new = AsksAtOnce old asked.call.ticket asked.answer new × IsRecorded recorded (told asked.answer) old_draws asked.call new_draws

module _ {M E : Type 0} (old_draws new_draws : TicketPassView) {A : Type 0} (asks : PassView M E → A → PassView M E → Type 0) where
  -- what a call that reads answers, or that its ticket pass was spent
  abbrev pub CalledToAsk : PassView M E → Result A Spent → PassView M E → Type 0
  CalledToAsk old (Ok asked) new = asks old asked new
  CalledToAsk old (Err spent) new = WasSpent old_draws new_draws old new

module _ {M E R F : Type 0} (step : M → E → Result (M × R) F) (lock : Lock M) (old_draws new_draws : TicketPassView) {A : Type 0} (asks : PassView M E → A → PassView M E → Type 0) where
  -- a writer had the lane, and the call drew nothing
  pub record WasBusy (old : PassView M E) (busy : Busy) (new : PassView M E) : Type 0 where
    pub could : CanDraw old_draws
    pub draws : new_draws ≡ old_draws
    pub writer : IsWriterAt old.lane busy
    pub turned : IsTurnedAway lock old busy new
    pub legal : IsLegal step lock.opened.machine new.seen

  -- the same of a call that does not wait
  abbrev pub TriedToAsk : PassView M E → Result A TryError → PassView M E → Type 0
  TriedToAsk old (Ok asked) new = asks old asked new
  TriedToAsk old (Err try_error.Spent) new = WasSpent old_draws new_draws old new
  TriedToAsk old (Err (try_error.Busy busy)) new = WasBusy old busy new
