-- Plans where each slice has one number of owners: owners hand slices over, and none is added or taken away.
use Rattle.std.specs.Prelude.{◌≡◌, ◌+◌, ◌-◌, ◌<◌, ◌≤◌, ℕ, ◌⊎◌, max, List, length, take, Option, Some, None, Contains, slice_get}
use Rattle.assignment.specs.declared.slice.Slice.{Slice}
use Rattle.weighted_move.specs.declared.balance.TheConstants.{MOST_MOVES}
use Rattle.weighted_move.specs.declared.slice_plan.Plan.{Plan}
use Rattle.weighted_move.specs.declared.moves.Move.{Move}
use Rattle.weighted_move.specs.declared.redundancy.Redundancy.{Redundancy}
use Rattle.weighted_move.specs.declared.loaded_slice.LoadedSlice.{LoadedSlice}
use Rattle.weighted_move.specs.Chains.{after_moves, left_by}
use Rattle.weighted_move.specs.Halving.{slices_with_halves}
use Rattle.weighted_move.specs.Merging.{IsMerged}
use Rattle.weighted_move.specs.Moves.{IsBestOf, IsTaker}
use Rattle.weighted_move.specs.Policies.{PlanTerms}
use Rattle.weighted_move.specs.Fitting.{fitted_slices}
use Rattle.weighted_move.specs.SliceLoads.{slices_with_loads}
use Rattle.weighted_move.specs.Loads.{load_of, share_of}

-- an owner hands its share of a slice over to another task: the gain is the greater of the two loads,
-- less the greater of the two afterwards
abbrev pub handover : (ℕ → ℕ) → LoadedSlice → ℕ → ℕ → Move
handover load slice giver taker = record {
  start = slice.start;
  giver = Some giver;
  taker = Some taker;
  gain = max (load giver) (load taker) - max (load giver - share_of slice) (load taker + share_of slice);
  churn = slice.width;
}

-- a handover of a slice of the list, with a gain, whose churn is at most what is left
pub record IsHandover (slices : List LoadedSlice) (tasks : List ℕ) (left : ℕ) (move : Move) : Type 0 where
  pub slice : LoadedSlice
  pub giver : ℕ
  pub taker : ℕ
  pub listed : Contains slices slice
  pub owner : Contains slice.owners giver
  pub takes : IsTaker tasks slice.owners taker
  pub is : move ≡ handover (load_of slices) slice giver taker
  pub gains : 0 < move.gain
  pub affordable : slice.width ≤ left

-- the best handover, where some moves were made
abbrev pub IsBestHandover : List LoadedSlice → List ℕ → ℕ → List Move → Option Move → Type 0
IsBestHandover slices tasks budget moves best = IsBestOf (IsHandover (after_moves slices moves) tasks (left_by budget moves)) best

-- each move is the best handover where the earlier moves were made; after the last there is none, or
-- as many moves were made as there may be
pub record AreBestHandovers (slices : List LoadedSlice) (tasks : List ℕ) (budget : ℕ) (moves : List Move) : Type 0 where
  pub few : length moves ≤ MOST_MOVES
  pub best : (k : ℕ) (move : Move) → slice_get moves k ≡ Some move → IsBestHandover slices tasks budget (take k moves) (Some move)
  pub ended : (length moves ≡ MOST_MOVES) ⊎ IsBestHandover slices tasks budget moves None

-- just so many owners
abbrev pub exactly : ℕ → Redundancy
exactly number = record { low = number; high = number }

-- a plan that gives each slice this number of owners, merges cold neighbours, makes the best
-- handovers, and halves the hot slices that are left
pub record IsPlanOfHandovers (slices : List Slice) (loads tasks : List ℕ) (terms : PlanTerms) (number : ℕ) (plan : Plan) : Type 0 where
  pub runs : List LoadedSlice
  pub merged : IsMerged terms.cold (fitted_slices tasks (exactly number) (slices_with_loads tasks slices loads)) runs
  pub moved : AreBestHandovers runs tasks terms.churn plan.moves
  pub split : plan.slices ≡ slices_with_halves terms.hot terms.most (after_moves runs plan.moves)
