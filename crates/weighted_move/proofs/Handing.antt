-- Where as many owners must be as may be, the candidates are the handovers.
use Rattle.std.proofs.Common.{◌≡◌, ◌∙◌, ℕ, ◌<◌, ◌≤◌, inl, inr, List, length, take, Option, Some, None, refl, sym, ap, subst, arith}
use Rattle.std.specs.Prelude.{min, All, Contains}
use Rattle.std.proofs.lemmas.List.{take_all}
use Rattle.std.proofs.lemmas.List.Elements.{All-from_recursion, All-contains}
use Rattle.std.proofs.lemmas.Option.{slice_get_within}
use Rattle.slice_ranges.specs.Sets.{Rises}
use Rattle.assignment.specs.declared.slice.Slice.{Slice}
use Rattle.weighted_move.specs.declared.redundancy.Redundancy.{Redundancy}
use Rattle.weighted_move.specs.declared.loaded_slice.LoadedSlice.{LoadedSlice}
use Rattle.weighted_move.specs.declared.moves.Move.{Move}
use Rattle.weighted_move.specs.declared.slice_plan.Plan.{Plan}
use Rattle.weighted_move.specs.Policies.{PlanTerms}
use Rattle.weighted_move.specs.Loads.{load_of}
use Rattle.weighted_move.specs.Owning.{IsFit, IsRedundancy}
use Rattle.weighted_move.specs.Moves.{IsCandidate, IsChange, IsBestOf, gain_of}
use Rattle.weighted_move.specs.Chains.{after_moves, left_by}
use Rattle.weighted_move.specs.Merging.{IsMerged}
use Rattle.weighted_move.specs.SliceLoads.{slices_with_loads}
use Rattle.weighted_move.specs.Fitting.{fitted_slices}
use Rattle.weighted_move.specs.Plans.{CanPlan, IsPlan, redundancy_for}
use Rattle.weighted_move.specs.Handovers.{handover, exactly, IsHandover, AreBestHandovers, IsPlanOfHandovers}
use Rattle.weighted_move.proofs.Choosing.{same_kind}
use Rattle.weighted_move.proofs.Changing.{only_replaced, replacement_gain}
use Rattle.weighted_move.proofs.Fits.{good_after}
use Rattle.weighted_move.proofs.Gains.{gain-replaced, member_known}
use Rattle.weighted_move.proofs.Lawful.{number_each, redundancy_is, runs_good}
use Rattle.weighted_move.proofs.Loading.{shared}
use Rattle.weighted_move.proofs.Members.{contained}
use Rattle.weighted_move.proofs.Planned.{plannable}
use Rattle.weighted_move.proofs.Seen.{loaded_of}

module _ (slices : List LoadedSlice) (tasks : List ℕ) (redundancy : Redundancy) (left : ℕ) (set : Rises 1 tasks 65) (is_redundancy : IsRedundancy tasks redundancy) (same : redundancy.low ≡ redundancy.high) (fits : All (λ s. IsFit tasks redundancy s.owners) slices) where
  fits_one : (slice : LoadedSlice) → Contains slices slice → IsFit tasks redundancy slice.owners
  fits_one slice listed = All-contains (λ (s : LoadedSlice). IsFit tasks redundancy s.owners) slices slice fits listed

  -- a move with these names and this gain
  abbrev named : LoadedSlice → Option ℕ → Option ℕ → ℕ → Move
  named slice giver taker gain = record { start = slice.start; giver = giver; taker = taker; gain = gain; churn = slice.width }

  pub handed_over : (move : Move) → IsCandidate slices tasks redundancy left move → IsHandover slices tasks left move
  handed_over move h =
      let fit = fits_one h.slice h.listed in
      let both = only_replaced tasks redundancy h.slice move.giver move.taker same fit h.moves.change in
      let a = both.0 in
      let b = both.1 in
      let giver = both.2 in
      let taker = both.3 in
      let P : Option ℕ → Type 0 = λ g. IsChange tasks redundancy h.slice.owners g move.taker in
      let Q : Option ℕ → Type 0 = λ t. IsChange tasks redundancy h.slice.owners (Some a) t in
      let change : IsChange tasks redundancy h.slice.owners (Some a) (Some b) = subst Q taker (subst P giver h.moves.change) in
      let gain = replacement_gain slices tasks redundancy left a b move h set is_redundancy fit giver taker in
      let first = gain_of (load_of slices) h.slice move.giver move.taker in
      let gained : move.gain ≡ first = ap (λ (m : Move). m.gain) h.moves.is in
      record {
        slice = h.slice;
        giver = a;
        taker = b;
        listed = h.listed;
        owner = change.0;
        takes = change.1;
        is = h.moves.is ∙ ap (λ (g : Option ℕ). named h.slice g move.taker first) giver ∙ ap (λ (t : Option ℕ). named h.slice (Some a) t first) taker ∙ ap (λ (n : ℕ). named h.slice (Some a) (Some b) n) (sym gained ∙ gain);
        gains = h.moves.gains;
        affordable = h.affordable;
      }

  pub taken_over : (move : Move) → IsHandover slices tasks left move → IsCandidate slices tasks redundancy left move
  taken_over move h =
      let fit = fits_one h.slice h.listed in
      let owned = shared (load_of slices) slices h.listed.0 h.slice (λ t. refl) h.listed.1 (sym h.listed.2) in
      let loaded = loaded_of (load_of slices) tasks redundancy h.slice is_redundancy fit owned in
      let gain = gain-replaced (load_of slices) h.slice h.giver h.taker loaded (contained h.slice.owners h.giver h.owner) (member_known tasks h.taker set h.takes.member) h.takes.stranger in
      let P : Move → Type 0 = λ m. IsCandidate slices tasks redundancy left m in
      let Q : Move → Type 0 = λ m. 0 < m.gain in
      let made : IsCandidate slices tasks redundancy left (handover (load_of slices) h.slice h.giver h.taker) = record {
        slice = h.slice;
        listed = h.listed;
        moves = record { change = (h.owner, h.takes); is = ap (λ (n : ℕ). named h.slice (Some h.giver) (Some h.taker) n) (sym gain); gains = subst Q h.is h.gains };
        affordable = h.affordable;
      } in
      subst P (sym h.is) made

  -- so the best candidate is the best handover
  pub best_handover : (best : Option Move) → IsBestOf (IsCandidate slices tasks redundancy left) best → IsBestOf (IsHandover slices tasks left) best
  best_handover best h = same_kind (IsCandidate slices tasks redundancy left) (IsHandover slices tasks left) best handed_over taken_over h

module _ (slices : List Slice) (loads tasks : List ℕ) (terms : PlanTerms) (plan : Plan) (can : CanPlan slices loads tasks terms) (h : IsPlan slices loads tasks terms plan) (same : terms.low ≡ terms.high) where
  number : ℕ
  number = min terms.low (length tasks)

  redundancy_same : (redundancy_for terms tasks).low ≡ (redundancy_for terms tasks).high
  redundancy_same = ap (λ (n : ℕ). min n (length tasks)) same

  redundancy_exact : redundancy_for terms tasks ≡ exactly (min terms.low (length tasks))
  redundancy_exact =
      let made : ℕ → Redundancy = λ n. record { low = min terms.low (length tasks); high = n } in
      ap (λ (n : ℕ). made n) (sym redundancy_same)

  after_fits : (k : ℕ) → k ≤ length plan.moves → All (λ s. IsFit tasks (redundancy_for terms tasks) s.owners) (after_moves h.runs (take k plan.moves))
  after_fits k l =
      let good = good_after tasks can.set (redundancy_for terms tasks) terms.churn h.runs plan.moves h.moved (runs_good slices loads tasks terms plan can h) k l in
      All-from_recursion (λ (s : LoadedSlice). IsFit tasks (redundancy_for terms tasks) s.owners) (after_moves h.runs (take k plan.moves)) good.fits

  last_fits : All (λ s. IsFit tasks (redundancy_for terms tasks) s.owners) (after_moves h.runs plan.moves)
  last_fits =
      let P : List Move → Type 0 = λ ms. All (λ s. IsFit tasks (redundancy_for terms tasks) s.owners) (after_moves h.runs ms) in
      subst P (take_all (length plan.moves) plan.moves (omega arith)) (after_fits (length plan.moves) (omega arith))

  is_redundancy : IsRedundancy tasks (redundancy_for terms tasks)
  is_redundancy = redundancy_is terms tasks can.policy (plannable slices loads tasks can.planned).some

  best_moved : AreBestHandovers h.runs tasks terms.churn plan.moves
  best_moved = record {
    few = h.moved.few;
    best = λ k move at.
        let within = slice_get_within plan.moves k move at in
        best_handover (after_moves h.runs (take k plan.moves)) tasks (redundancy_for terms tasks) (left_by terms.churn (take k plan.moves)) can.set is_redundancy redundancy_same (after_fits k (omega (arith, within))) (Some move) (h.moved.best k move at);
    ended = elim h.moved.ended [
      | inl full ↦ inl full
      | inr none ↦ inr (best_handover (after_moves h.runs plan.moves) tasks (redundancy_for terms tasks) (left_by terms.churn plan.moves) can.set is_redundancy redundancy_same last_fits None none)
    ];
  }

  pub plan_handed_over : IsPlanOfHandovers slices loads tasks terms (min terms.low (length tasks)) plan
  plan_handed_over =
      let P : Redundancy → Type 0 = λ r. IsMerged terms.cold (fitted_slices tasks r (slices_with_loads tasks slices loads)) h.runs in
      record { runs = h.runs; merged = subst P redundancy_exact h.merged; moved = best_moved; split = h.split }

  pub number_exact : All (λ s. length s.owners ≡ min terms.low (length tasks)) plan.slices
  number_exact = λ k d l.
      let fit = number_each slices loads tasks terms plan can h k d l in
      let least = fit.least in
      let most = fit.most in
      omega (arith, least, most, redundancy_same)
