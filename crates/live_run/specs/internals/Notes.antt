-- What a thread of a live run notes of its calls, by which its report tells of them.
use Rattle.std.specs.Prelude.{◌≡◌, ℕ, [], ◌∷◌, ◌++◌, Result, Ok, Err, false, true}
use Rattle.machines.specs.declared.event.Event.{Event}
use Rattle.history_lock.specs.Passes.{Lock, PassView}
use Rattle.tickets.specs.Tickets.{TicketPassView}
use Rattle.job_calls.specs.declared.record.CallRecord.{CallRecord}
use Rattle.job_calls.specs.declared.call.ClusterCall.{ClusterCall}
use Rattle.job_calls.specs.declared.reply.ClusterReply.{ClusterReply}
use Rattle.shared_objects.specs.declared.error.CallError.{CallError}
use Rattle.shared_objects.specs.declared.error.CallError.TheVariants.{Spent, HistoryFull, Refused, NoMemory}
use Rattle.live_run.specs.declared.notes.Halt.{Halt}
use Rattle.live_run.specs.declared.notes.Halt.TheVariants as halt
use Rattle.live_run.specs.declared.notes.Notes.{Notes}
use Rattle.shared_objects.specs.Calls.{Writes, WroteNothing}
use Rattle.live_run.specs.Reports.{is_serve}

-- a refusal is none of a key that a task was asked for
abbrev pub RefusesNoServe : {A F : Type 0} → Result A (CallError F) → Type 0
RefusesNoServe (Err (Refused why)) = is_serve why.call.step ≡ false
RefusesNoServe answer = Unit {0}

-- the records are the same, and a call found no memory
pub record IsStarved (old new : Notes) : Type 0 where
  pub records : new.records.items ≡ old.records.items
  pub starved : new.starved ≡ true

-- the record of a refused call was added
pub record HasRecord (call : CallRecord) (old new : Notes) : Type 0 where
  pub records : new.records.items ≡ old.records.items ++ call ∷ []
  pub starved : new.starved ≡ old.starved

-- the call was refused by its machine and its record was added, or it was not made and nothing was noted
abbrev pub IsStopped : {A F : Type 0} → Result A (CallError F) → Notes → Notes → Type 0
IsStopped (Err (Refused why)) old new = HasRecord why.call old new
IsStopped (Err Spent) old new = new ≡ old
IsStopped (Err HistoryFull) old new = new ≡ old
IsStopped (Err NoMemory) old new = ⊥
IsStopped (Ok answer) old new = ⊥

-- what is noted of an answer: nothing of an accepted call; the record of a refused one; and where there was no memory, for the call or for its record, that alone
abbrev pub IsNoted : {A F : Type 0} → Result A (CallError F) → Notes → Result A Halt → Notes → Type 0
IsNoted answer old (Ok value) new = (answer ≡ Ok value) × (new ≡ old)
IsNoted answer old (Err halt.Stopped) new = IsStopped answer old new
IsNoted answer old (Err halt.NoMemory) new = IsStarved old new

-- what is noted of a call that only looks, for which its thread waits: no record; and where it found no memory, that
abbrev pub IsReadNoted : {A : Type 0} → Notes → Result A Halt → Notes → Type 0
IsReadNoted old (Ok value) new = new ≡ old
IsReadNoted old (Err halt.Stopped) new = new ≡ old
IsReadNoted old (Err halt.NoMemory) new = IsStarved old new

-- who ends, and does not answer that it is out of memory, made no call that found none
abbrev pub TellsHalt : Halt → Notes → Type 0
TellsHalt halt.Stopped notes = notes.starved ≡ false
TellsHalt halt.NoMemory notes = Unit {0}

-- the same of each answer: where a call found no memory, it is out of memory
abbrev pub TellsMemory : {A : Type 0} → Result A Halt → Notes → Type 0
TellsMemory (Ok value) notes = notes.starved ≡ false
TellsMemory (Err why) notes = TellsHalt why notes

module _ {M C R F : Type 0} (step : M → Event C → Result (M × R) F) (lock : Lock M) (old_draws new_draws : TicketPassView) (call : ℕ → C) (recorded : ℕ → ClusterCall) (told : F → ClusterReply) where
  -- what a thread answers of a call that may write, and what it notes: an accepted call leaves no record, a refused one its own, and a call that found no memory is answered so
  abbrev pub CalledAndNoted : PassView M (Event C) → Notes → Result R Halt → PassView M (Event C) → Notes → Type 0
  CalledAndNoted old old_notes (Ok reply) new new_notes = Writes step lock old_draws new_draws call old (Ok reply) new × (new_notes ≡ old_notes)
  CalledAndNoted old old_notes (Err halt.Stopped) new new_notes =
      (error : CallError F) × WroteNothing step lock old_draws new_draws call recorded told old error new × IsStopped {A = R} (Err error) old_notes new_notes
  CalledAndNoted old old_notes (Err halt.NoMemory) new new_notes = IsStarved old_notes new_notes
