-- What holds of every plan.
use Rattle.std.proofs.Common.{◌≡◌, ◌∙◌, ℕ, ◌-◌, ◌<◌, ◌≤◌, true, List, [], length, sym, ap, subst, arith}
use Rattle.std.specs.Prelude.{◌&&◌, nat_le, All, None}
use Rattle.std.proofs.lemmas.Bool.Decides.{nat_tests}
use Rattle.std.proofs.lemmas.List.Elements.{All-from_recursion}
use Rattle.std.proofs.lemmas.Bool.{and_parts}
use Rattle.slice_ranges.specs.Sets.{Rises}
use Rattle.slice_ranges.specs.declared.key.TheConstants.{KEYS}
use Rattle.assignment.specs.declared.slice.Slice.{Slice}
use Rattle.assignment.specs.declared.slice.TheConstants.{MOST_OWNERS}
use Rattle.assignment.specs.declared.assignment.TheConstants.{MOST_SLICES}
use Rattle.assignment.specs.Slices.{refusal_of}
use Rattle.assignment.specs.Owners.{owners_of}
use Rattle.weighted_move.specs.declared.redundancy.Redundancy.{Redundancy}
use Rattle.weighted_move.specs.declared.loaded_slice.LoadedSlice.{LoadedSlice}
use Rattle.weighted_move.specs.declared.slice_plan.Plan.{Plan}
use Rattle.weighted_move.specs.Policies.{PlanTerms, is_policy}
use Rattle.machines.specs.Numbers.{is_within}
use Rattle.weighted_move.specs.Loads.{Tiles}
use Rattle.weighted_move.specs.SliceLoads.{slices_with_loads}
use Rattle.weighted_move.specs.Merging.{in_line}
use Rattle.weighted_move.specs.Chains.{after_moves}
use Rattle.weighted_move.specs.Halving.{slices_with_halves_within}
use Rattle.weighted_move.specs.Plans.{CanPlan, IsPlan, redundancy_for, slices_for_plan}
use Rattle.weighted_move.specs.Owning.{IsFit, IsRedundancy}
use Rattle.weighted_move.specs.Keys.{bare, owners_after}
use Rattle.weighted_move.proofs.Starts.{tiles_at_first}
use Rattle.weighted_move.proofs.Prepared.{fitted_tiles}
use Rattle.weighted_move.proofs.Planned.{few_slices, plannable}
use Rattle.weighted_move.proofs.Fits.{AreFit, AreGood, prepared_fits, runs_fit, good_at_last}
use Rattle.weighted_move.proofs.Halves.{owners_at, owners_of_halved}
use Rattle.weighted_move.proofs.Keyed.{runs_tile, runs_at, after_at, bare-halved}
use Rattle.weighted_move.proofs.Accepting.{halved_accepted, halved_all, prepared_few, runs_few, after_few}

-- what a policy allows
record Allows (terms : PlanTerms) : Type 0 where
  some : 1 ≤ terms.low
  ordered : terms.low ≤ terms.high
  few : terms.high ≤ MOST_OWNERS
  most : terms.most ≤ MOST_SLICES

allows : (terms : PlanTerms) → is_policy terms ≡ true → Allows terms
allows terms h =
    let parts = and_parts (is_within terms.low terms.high && nat_le terms.high MOST_OWNERS) (nat_le terms.churn KEYS && is_within terms.most MOST_SLICES) h in
    let ends = and_parts (nat_le terms.churn KEYS) (is_within terms.most MOST_SLICES) parts.1 in
    let redundancy = and_parts (is_within terms.low terms.high) (nat_le terms.high MOST_OWNERS) parts.0 in
    let low = and_parts (nat_le 1 terms.low) (nat_le terms.low terms.high) redundancy.0 in
    let most = (and_parts (nat_le 1 terms.most) (nat_le terms.most MOST_SLICES) ends.1).1 in
    let a = low.0 in
    let b = low.1 in
    let c = redundancy.1 in
    record { some = grind (arith, nat_tests); ordered = grind (arith, nat_tests); few = grind (arith, nat_tests); most = grind (arith, nat_tests) }

-- so many owners may a slice have
pub redundancy_is : (terms : PlanTerms) (tasks : List ℕ) → is_policy terms ≡ true → 0 < length tasks → IsRedundancy tasks (redundancy_for terms tasks)
redundancy_is terms tasks h some =
    let allowed = allows terms h in
    let a = allowed.some in
    let b = allowed.ordered in
    let c = allowed.few in
    record { some = omega arith; ordered = omega arith; few = omega arith; known = omega arith }

module _ (slices : List Slice) (loads tasks : List ℕ) (terms : PlanTerms) (plan : Plan) (can : CanPlan slices loads tasks terms) (h : IsPlan slices loads tasks terms plan) where
  abbrev set : Rises 1 tasks 65
  set = can.set

  abbrev redundancy : Redundancy
  redundancy = redundancy_for terms tasks

  is_redundancy : IsRedundancy tasks (redundancy_for terms tasks)
  is_redundancy = redundancy_is terms tasks can.policy (plannable slices loads tasks can.planned).some

  ready_fits : AreFit tasks set redundancy (in_line h.merged.groups)
  ready_fits =
      let P : List LoadedSlice → Type 0 = λ xs. AreFit tasks set (redundancy_for terms tasks) xs in
      subst P (sym h.merged.cut) (prepared_fits tasks set (redundancy_for terms tasks) slices loads is_redundancy.ordered is_redundancy.known)

  ready_tile : Tiles 0 (slices_for_plan slices loads tasks terms) KEYS
  ready_tile = fitted_tiles 0 KEYS tasks (redundancy_for terms tasks) [] (slices_with_loads tasks slices loads) (tiles_at_first tasks slices loads can.accepted (plannable slices loads tasks can.planned).each)

  line_tile : Tiles 0 (in_line h.merged.groups) KEYS
  line_tile = let P : List LoadedSlice → Type 0 = λ xs. Tiles 0 xs KEYS in subst P (sym h.merged.cut) ready_tile

  pub runs_good : AreGood tasks set redundancy h.runs
  runs_good = record {
    tiles = runs_tile terms.cold 0 KEYS h.merged.groups h.runs h.merged.joined line_tile;
    fits = runs_fit tasks set redundancy terms.cold h.merged.groups h.runs h.merged.joined ready_fits;
  }

  after_good : AreGood tasks set redundancy (after_moves h.runs plan.moves)
  after_good = good_at_last tasks set redundancy terms.churn h.runs plan.moves h.moved runs_good

  pub number_each : All (λ s. IsFit tasks (redundancy_for terms tasks) s.owners) plan.slices
  number_each =
      let room = terms.most - length (after_moves h.runs plan.moves) in
      let parts = halved_all (IsFit tasks redundancy) terms.hot room (after_moves h.runs plan.moves) after_good.fits in
      rw h.split (λ k d l. (All-from_recursion (λ (s : Slice). IsFit tasks redundancy s.owners) (slices_with_halves_within terms.hot room (after_moves h.runs plan.moves)) parts k d l))

  pub plan_accepted : refusal_of plan.slices ≡ None
  plan_accepted =
      let allowed = allows terms can.policy in
      let few = few_slices slices can.accepted in
      let ready = prepared_few tasks redundancy slices loads in
      let cut = ap (λ (xs : List LoadedSlice). length xs) h.merged.cut in
      let runs = runs_few terms.cold h.merged.groups h.runs h.merged.joined in
      let after = after_few h.runs plan.moves in
      let room = terms.most - length (after_moves h.runs plan.moves) in
      rw h.split (halved_accepted tasks set redundancy terms.hot room (after_moves h.runs plan.moves) after_good.tiles after_good.fits
      is_redundancy.some is_redundancy.few (omega (arith, few, ready, cut, runs, after, allowed.most)))

  pub plan_keys : (key : ℕ) → key < KEYS → owners_of plan.slices key ≡ owners_after key (owners_of (bare (slices_for_plan slices loads tasks terms)) key) plan.moves
  plan_keys key ends =
      let ready = slices_for_plan slices loads tasks terms in
      let after = after_moves h.runs plan.moves in
      let room = terms.most - length after in
      let made = owners_of_halved tasks set redundancy terms.hot room key after after_good.tiles after_good.fits ends in
      let moves = after_at tasks set redundancy terms.churn key h.runs plan.moves h.moved runs_good ends in
      let merged = runs_at terms.cold 0 KEYS key h.merged.groups h.runs h.merged.joined line_tile (omega arith) in
      let cut = ap (λ (xs : List LoadedSlice). owners_at xs key) h.merged.cut in
      let before = owners_of_halved tasks set redundancy 0 0 key ready ready_tile (prepared_fits tasks set redundancy slices loads is_redundancy.ordered is_redundancy.known) ends in
      let bare_before = ap (λ (xs : List Slice). owners_of xs key) (bare-halved ready) in
      let first : owners_at h.runs key ≡ owners_of (bare ready) key = merged ∙ cut ∙ sym (bare_before ∙ before) in
      rw h.split (made ∙ moves ∙ ap (λ owners. owners_after key owners plan.moves) first)
