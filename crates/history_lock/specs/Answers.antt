-- What the calls of a lock answer, and what the pass has seen and done afterwards.
use Rattle.std.specs.Prelude.{◌≡◌, ◌≢◌, ◌⊎◌, ℕ, ◌<◌, List, [], ◌∷◌, ◌++◌, length, true, is_ok, Some, Result, Ok, Err}
use Rattle.std.specs.List.{AllByRecursion}
use Rattle.history_lock.specs.declared.error.Busy.{Busy}
use Rattle.history_lock.specs.declared.error.Holder.TheVariants.{Reader, Writer}
use Rattle.history_lock.specs.declared.error.WriteError.{WriteError}
use Rattle.history_lock.specs.declared.error.WriteError.TheVariants.{HistoryFull, Refused, NoMemory}
use Rattle.history_lock.specs.declared.error.LockError.{LockError}
use Rattle.history_lock.specs.declared.error.LockError.TheVariants.{Busy as BusyLane, Write}
use Rattle.history_lock.specs.Histories.{replay, entry, StartsWith}
use Rattle.history_lock.specs.Passes.{Lock, PassView}

-- the pass of a lane found a lane of the lock held: a writer that held it is the pass of another lane of the lock;
-- where a reader held it, it is not the pass's own lane
pub record IsHeldByOther {M : Type 0} (lock : Lock M) (lane : ℕ) (busy : Busy) : Type 0 where
  pub inside : busy.lane < lock.opened.lanes
  pub writer : (n : ℕ) → busy.holder ≡ Writer n → (n ≢ lane) × (n < lock.opened.lanes)
  pub reader : busy.holder ≡ Reader → busy.lane ≢ lane

-- the lane was held by a writer
abbrev pub IsWriterAt : ℕ → Busy → Type 0
IsWriterAt lane busy = (n : ℕ) × (busy ≡ record { lane = lane; holder = Writer n })

module _ {M E : Type 0} (lock : Lock M) where
  -- a claim was refused
  pub record IsTurnedAway (old : PassView M E) (busy : Busy) (new : PassView M E) : Type 0 where
    pub begins : StartsWith new.seen old.seen
    pub held : IsHeldByOther lock old.lane busy
    pub only : new ≡ record old { seen = new.seen; turned = old.turned ++ busy ∷ [] }

  -- claims were refused, any number of them
  pub record HasWaited (old new : PassView M E) : Type 0 where
    pub begins : StartsWith new.seen old.seen
    pub refusals : List Busy
    pub held : AllByRecursion (IsHeldByOther lock old.lane) refusals
    pub only : new ≡ record old { seen = new.seen; turned = old.turned ++ refusals }

module _ {M E : Type 0} where
  -- the first pass has now seen all that it had seen, and all that the second had
  pub record HasMet (first second new : PassView M E) : Type 0 where
    pub begins : StartsWith new.seen first.seen
    pub learns : StartsWith new.seen second.seen
    pub only : new ≡ record first { seen = new.seen }

module _ {M E R F : Type 0} (step : M → E → Result (M × R) F) (lock : Lock M) where
  -- the pass has seen the history as it was at its turn: it begins with all that was seen before, it is legal, and this is the machine after it
  pub record IsShown (old : PassView M E) (machine : M) (new : PassView M E) : Type 0 where
    pub begins : StartsWith new.seen old.seen
    pub legal : replay step lock.opened.machine new.seen ≡ Some machine
    pub only : new ≡ record old { seen = new.seen }

  -- `made event`: `make` was called once, and answered this event; `unmade`: it was not called
  module _ (made : E → Type 0) (unmade : Type 0) where
    -- there was room for the event, the machine took it, and it was added to the history that the pass was shown
    pub record IsWritten (old : PassView M E) (reply : R) (new : PassView M E) : Type 0 where
      pub event : E
      pub before : M
      pub after : M
      pub shown : PassView M E
      pub calls : made event
      pub shows : IsShown old before shown
      pub room : length shown.seen < lock.opened.limit
      pub takes : step before event ≡ Ok (after, reply)
      pub adds : new ≡ record shown { seen = shown.seen ++ entry old.lane event ∷ []; mine = old.mine ++ event ∷ [] }
      pub legal : replay step lock.opened.machine new.seen ≡ Some after

    -- there was room for the event, and the machine refuses it
    pub record IsRefused (old : PassView M E) (event : E) (fault : F) (new : PassView M E) : Type 0 where
      pub machine : M
      pub calls : made event
      pub shows : IsShown old machine new
      pub room : length new.seen < lock.opened.limit
      pub refuses : step machine event ≡ Err fault

    -- there was room for an event, but no memory: `make` was not called, or the machine would take what it answered
    pub record WantsMemory (old new : PassView M E) : Type 0 where
      pub machine : M
      pub shows : IsShown old machine new
      pub room : length new.seen < lock.opened.limit
      pub calls : unmade ⊎ ((event : E) × made event × (is_ok (step machine event) ≡ true))

    -- a write, once the lock was free
    abbrev pub Wrote : PassView M E → Result R (WriteError E F) → PassView M E → Type 0
    Wrote old (Ok reply) new = IsWritten old reply new
    Wrote old (Err HistoryFull) new = unmade × ((machine : M) × IsShown old machine new) × (length new.seen ≡ lock.opened.limit)
    Wrote old (Err (Refused event fault)) new = IsRefused old event fault new
    Wrote old (Err NoMemory) new = WantsMemory old new

    -- a write that does not wait
    abbrev pub TriedToWrite : PassView M E → Result R (LockError E F) → PassView M E → Type 0
    TriedToWrite old (Ok reply) new = Wrote old (Ok reply) new
    TriedToWrite old (Err (BusyLane busy)) new = unmade × IsTurnedAway lock old busy new
    TriedToWrite old (Err (Write error)) new = Wrote old (Err error) new

  -- `called machine answer`: the closure was called once, on this machine, and answered this
  module _ {T : Type 0} (called : M → T → Type 0) where
    -- a shared call, once the lock was free
    abbrev pub Shared : PassView M E → T → PassView M E → Type 0
    Shared old answer new = (machine : M) × called machine answer × IsShown old machine new

    -- a shared call that does not wait; `uncalled`: the closure was not called
    abbrev pub TriedToShare : Type 0 → PassView M E → Result T Busy → PassView M E → Type 0
    TriedToShare uncalled old (Ok answer) new = Shared old answer new
    TriedToShare uncalled old (Err busy) new = uncalled × IsTurnedAway lock old busy new

module _ {M E : Type 0} (lock : Lock M) where
  -- a meeting that does not wait
  abbrev pub TriedToMeet : PassView M E → PassView M E → Result (Unit {0}) Busy → PassView M E → Type 0
  TriedToMeet first second (Ok _) new = HasMet first second new
  TriedToMeet first second (Err busy) new = IsTurnedAway lock first busy new
