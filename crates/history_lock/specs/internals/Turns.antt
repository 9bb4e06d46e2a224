-- What a pass does while it holds the lane.
use Rattle.std.specs.Prelude.{◌≡◌, ◌⊎◌, ℕ, ◌<◌, ◌≤◌, [], ◌∷◌, ◌++◌, length, true, is_ok, Result, Ok, Err}
use Rattle.history_lock.specs.declared.error.WriteError.{WriteError}
use Rattle.history_lock.specs.declared.error.WriteError.TheVariants.{HistoryFull, Refused, NoMemory}
use Rattle.history_lock.specs.declared.view.LaneState.{LaneState}
use Rattle.history_lock.specs.Histories.{entry}

-- the reply of a turn, without what it made beside
abbrev pub only_reply : {R A F : Type 0} → Result (R × A) F → Result R F
only_reply (Ok r) = Ok r.0
only_reply (Err e) = Err e

-- the lane state stays as it was
abbrev pub Stays : {M E : Type 0} → LaneState M E → LaneState M E → Type 0
Stays old new = (new.machine ≡ old.machine) × (new.history.items ≡ old.history.items)

module _ {M E R F : Type 0} (step : M → E → Result (M × R) F) (lane limit : ℕ) (made : E → Type 0) (unmade : Type 0) where
  -- a turn with a lane state, and what it leaves
  abbrev pub IsTurn : LaneState M E → Result R (WriteError E F) → LaneState M E → Type 0
  IsTurn old (Ok reply) new = (event : E) × made event × (length old.history.items < limit) × (step old.machine event ≡ Ok (new.machine, reply)) × (new.history.items ≡ old.history.items ++ entry lane event ∷ [])
  IsTurn old (Err HistoryFull) new = unmade × (limit ≤ length old.history.items) × Stays old new
  IsTurn old (Err (Refused event fault)) new = made event × (length old.history.items < limit) × (step old.machine event ≡ Err fault) × Stays old new
  IsTurn old (Err NoMemory) new = (unmade ⊎ ((event : E) × made event × (is_ok (step old.machine event) ≡ true))) × (length old.history.items < limit) × Stays old new
