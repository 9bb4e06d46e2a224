-- Passes that were taken in when the lock closes.
use Rattle.std.specs.Prelude.{◌≡◌, ◌⊎◌, ℕ, ◌≤◌, List, [], ◌∷◌, length, Some, Result}
use Rattle.std.specs.List.{AllByRecursion}
use Rattle.atomic_table.specs.Seated.{TableId}
use Rattle.history_lock.specs.declared.entry.Entry.{Entry}
use Rattle.history_lock.specs.declared.view.Opened.{Opened}
use Rattle.history_lock.specs.declared.view.GatheredPass.{GatheredPass}
use Rattle.history_lock.specs.declared.view.LaneState.{LaneState}
use Rattle.history_lock.specs.Histories.{replay, of_lane, StartsWith}
use Rattle.history_lock.specs.Passes.{PassView}

-- what is left of passes that were taken in
abbrev pub gathered_pass : {E : Type 0} → ℕ → List (Entry E) → List E → GatheredPass E
gathered_pass lane seen mine = record { lane = lane; seen = seen; mine = mine }

module _ {M E : Type 0} where
  abbrev pub gathered_pass_of : PassView M E → GatheredPass E
  gathered_pass_of pass = gathered_pass pass.lane pass.seen pass.mine

  -- all passes are at this table
  abbrev pub AreAt : TableId → List (PassView M E) → Type 0
  AreAt table passes = AllByRecursion (λ pass. pass.table ≡ table) passes

-- a pass of this lane was taken in
abbrev pub IsGathered : {E : Type 0} → ℕ → List (GatheredPass E) → Type 0
IsGathered n [] = ⊥
IsGathered n (g ∷ gs) = (g.lane ≡ n) ⊎ IsGathered n gs

-- the lane state at the end, by all that were taken in
pub record IsEnd {M E R F : Type 0} (step : M → E → Result (M × R) F) (opened : Opened M) (gs : List (GatheredPass E)) (b : LaneState M E) : Type 0 where
  pub legal : replay step opened.machine b.history.items ≡ Some b.machine
  pub agrees : AllByRecursion (λ g. StartsWith b.history.items g.seen × (of_lane g.lane b.history.items ≡ g.mine)) gs
  pub others : (n : ℕ) → opened.lanes ≤ n → of_lane n b.history.items ≡ []
  pub short : length b.history.items ≤ opened.limit
