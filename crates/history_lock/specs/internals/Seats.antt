-- Seats between two calls.
use Rattle.std.specs.Prelude.{◌≡◌, ◌≢◌, ℕ, zero, suc, ◌<◌, ◌≤◌, List, [], ◌∷◌, ◌++◌, length, Option, Some, Result}
use mathlib.Core.Option.{some}
use lib.ListN.{get_elem?}
use Rattle.atomic_table.specs.Seated.{TableId}
use Rattle.atomic_table.specs.Table.{Me, rest}
use Rattle.history_lock.specs.declared.entry.Entry.{Entry}
use Rattle.history_lock.specs.declared.error.Busy.{Busy}
use Rattle.history_lock.specs.declared.view.Opened.{Opened}
use Rattle.history_lock.specs.declared.view.Role.TheVariants.{Lane, Dealer}
use Rattle.history_lock.specs.declared.view.GatheredPass.{GatheredPass}
use Rattle.history_lock.specs.declared.view.SeatView.{SeatView}
use Rattle.history_lock.specs.declared.view.LaneState.{LaneState}
use Rattle.history_lock.specs.declared.open.TheConstants.{MOST_LANES}
use Rattle.history_lock.specs.Histories.{IsLegal, StartsWith}
use Rattle.history_lock.specs.Rule.{word_index, IsLaneState, mine_of, refused_claim, IsHeldByAnother}

-- the seat of a lane holds nothing, and has taken in these passes
pub record IsTaking {M E : Type 0} (me : Me (Option (LaneState M E)) (SeatView M E)) (lane : ℕ) (passes : List (GatheredPass E)) : Type 0 where
  pub idle : me.0.end ≤ me.0.start
  pub role : me.0.role ≡ Lane lane
  pub has : me.0.passes ≡ passes
  pub bare : me.1 ≡ []

-- the seat of a lane between two calls
pub record IsResting {M E : Type 0} (me : Me (Option (LaneState M E)) (SeatView M E)) (lane : ℕ) : Type 0 where
  pub idle : me.0.end ≤ me.0.start
  pub role : me.0.role ≡ Lane lane
  pub below : (o : Opened M) → me.0.opened ≡ Some o → lane < o.lanes
  pub alone : me.0.passes ≡ []
  pub bare : me.1 ≡ []

-- the claim of a seat with this view was refused, by the word that it found
pub record IsRefusedClaim {M E : Type 0} (v : SeatView M E) (refusal : Busy) : Type 0 where
  pub found : ℕ
  pub held : found ≢ 0
  pub named : refusal ≡ refused_claim refusal.lane found
  pub other : IsHeldByAnother v refusal.lane found

-- what a seat has seen is legal
abbrev pub SeesLegal : {M E R F : Type 0} → (M → E → Result (M × R) F) → SeatView M E → Type 0
SeesLegal step v = (o : Opened _) → v.opened ≡ Some o → IsLegal step o.machine v.seen

-- the seat that deals has dealt the lanes below this one
pub record IsDealing {M E : Type 0} (me : Me (Option (LaneState M E)) (SeatView M E)) (opened : Opened M) (lane : ℕ) : Type 0 where
  pub idle : me.0.end ≤ me.0.start
  pub role : me.0.role ≡ Dealer lane
  pub alone : me.0.passes ≡ []
  pub bare : me.1 ≡ []
  pub knows : me.0.opened ≡ Some opened

-- a writer's seat holds the lanes below l
pub record IsHolding {M E : Type 0} (v : SeatView M E) (l word : ℕ) : Type 0 where
  pub idle : l ≡ 0 → v.end ≤ v.start
  pub low : 0 < l → v.start ≡ 0
  pub high : 0 < l → v.end ≡ l
  pub shown : 0 < l → v.word ≡ word

-- the slots of the lanes below l are out, that of the highest first
abbrev pub AreOut : {M E : Type 0} → ℕ → List (ℕ × Option (LaneState M E)) → Type 0
AreOut zero c = c ≡ []
AreOut (suc l) c = (b : LaneState _ _) × (c ≡ (l, Some b) ∷ rest c) × AreOut l (rest c)

-- the same, each with its lane state
abbrev pub HaveLaneStates : {M E R F : Type 0} → (M → E → Result (M × R) F) → Opened M → List (Entry E) → ℕ → List (ℕ × Option (LaneState M E)) → Type 0
HaveLaneStates step opened log zero c = c ≡ []
HaveLaneStates step opened log (suc l) c = (b : LaneState _ _) × (c ≡ (l, Some b) ∷ rest c) × IsLaneState step opened log l b × HaveLaneStates step opened log l (rest c)

-- the seat of the lane's pass, which had this view, holds the lanes below l for a write
pub record HasClaimed {M E R F : Type 0} (step : M → E → Result (M × R) F) (opened : Opened M) (v : SeatView M E) (l word : ℕ) (me : Me (Option (LaneState M E)) (SeatView M E)) : Type 0 where
  pub holds : IsHolding me.0 l word
  pub lane_states : HaveLaneStates step opened me.0.seen l me.1
  pub begins : StartsWith me.0.seen v.seen
  pub legal : IsLegal step opened.machine v.seen → IsLegal step opened.machine me.0.seen
  pub mine : 0 < l → mine_of v.role v.mine me.0.seen ≡ v.mine
  pub short : 0 < l → length me.0.seen ≤ opened.limit
  pub only : me.0 ≡ record v { start = me.0.start; end = me.0.end; word = me.0.word; seen = me.0.seen }

-- a claim of the seat was refused, and it holds nothing
pub record IsTurned {M E R F : Type 0} (step : M → E → Result (M × R) F) (opened : Opened M) (v : SeatView M E) (busy : Busy) (me : Me (Option (LaneState M E)) (SeatView M E)) : Type 0 where
  pub idle : me.0.end ≤ me.0.start
  pub bare : me.1 ≡ []
  pub begins : StartsWith me.0.seen v.seen
  pub legal : IsLegal step opened.machine v.seen → IsLegal step opened.machine me.0.seen
  pub refused : IsRefusedClaim v busy
  pub only : me.0 ≡ record v { start = me.0.start; end = me.0.end; word = me.0.word; seen = me.0.seen; turned = v.turned ++ busy ∷ [] }

-- the lane states of a new lock with so many lanes
pub record IsBlank {M E : Type 0} (machine : M) (lanes : ℕ) (slots : List (Option (LaneState M E))) : Type 0 where
  pub deep : length slots ≡ lanes
  pub lane_states : (l : ℕ) → l < lanes → (b : LaneState M E) × (get_elem? slots l ≡ some (Some b)) × (b.machine ≡ machine) × (b.history.items ≡ [])

-- a lock with a line of words and a slot for each lane, and these numbers of passes and of entries at the most
pub record IsOfLanes {M : Type 0} (table : TableId) (opened : Opened M) (lanes limit : ℕ) : Type 0 where
  pub words : table.words ≡ word_index lanes
  pub slots : table.slots ≡ lanes
  pub lanes_are : opened.lanes ≡ lanes
  pub limit_is : opened.limit ≡ limit
  pub some : 0 < lanes
  pub few : lanes ≤ MOST_LANES

-- a table with a line of words and a slot for each lane
pub record IsTable {M : Type 0} (table : TableId) (opened : Opened M) : Type 0 where
  pub words : table.words ≡ word_index opened.lanes
  pub slots : table.slots ≡ opened.lanes
  pub some : 0 < opened.lanes
  pub few : opened.lanes ≤ MOST_LANES

-- so many machines, all equal to this one
abbrev pub AreCopies : {M : Type 0} → M → ℕ → List M → Type 0
AreCopies machine zero [] = Unit {0}
AreCopies machine zero (x ∷ xs) = ⊥
AreCopies machine (suc n) [] = ⊥
AreCopies machine (suc n) (x ∷ xs) = (x ≡ machine) × AreCopies machine n xs
