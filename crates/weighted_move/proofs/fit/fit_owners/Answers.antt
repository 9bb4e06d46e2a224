use Rattle.std.proofs.Common.{◌≡◌, ◌∙◌, ◌+◌, ◌<◌, ℕ, List, length, get_or, take, drop, subst, arith}
use Rattle.std.proofs.lemmas.List.Sums.{get_or-le-sum_by}
use Rattle.weighted_move.specs.declared.loaded_slice.LoadedSlice.{LoadedSlice}
use Rattle.weighted_move.specs.Loads.{load_of, load_in}
use Rattle.weighted_move.specs.Fitting.{IsFittedBy}
use Rattle.weighted_move.proofs.Loading.{added-le-load, load-le-total}
use Rattle.weighted_move.proofs.Fitted.{cut_at, set_at, fit_step, fit_total}
use Rattle.weighted_move.proofs.fit.fit_owners.Goals as goal
use Rattle.weighted_move.proofs.fit.fit_owners.Goals.{After-fit_slice}

pub fit_slice-requires-clause-has : goal.fit_slice-requires-clause-has
fit_slice-requires-clause-has c t =
    let within : c.loop-slice.slice-index < length c.loop-slice.slices = omega (arith, c.loop-slice.auto.slices, c.loop-slice-test.true) in
    omega (arith, c.loop-slice.invariant.loads t, added-le-load c.loop-slice.slices c.loop-slice.slice-index c.slice-item.result t within)

pub fit_slice-requires-clause-small : goal.fit_slice-requires-clause-small
fit_slice-requires-clause-small c t =
    let within : c.loop-slice.slice-index < length c.loop-slice.slices = omega (arith, c.loop-slice.auto.slices, c.loop-slice-test.true) in
    let load = get_or-le-sum_by (λ (s : LoadedSlice). s.load) c.loop-slice.slices c.loop-slice.slice-index c.slice-item.result within in
    omega (arith, c.loop-slice.invariant.loads t, load-le-total c.loop-slice.slices t, load, c.loop-slice.invariant.total, c.requires.small)

fitted : (c : After-fit_slice) → IsFittedBy c.args.tasks.now c.args.redundancy (take c.loop-slice.slice-index c.loop-slice.slices) (get_or c.loop-slice.slices c.loop-slice.slice-index c.slice-item.result) (drop (c.loop-slice.slice-index + 1) c.loop-slice.slices) c.fit_slice.new.loads c.fit_slice.new.slice
fitted c =
    let within : c.loop-slice.slice-index < length c.loop-slice.slices = omega (arith, c.loop-slice.auto.slices, c.loop-slice-test.true) in
    let slices = c.loop-slice.slices in
    let i = c.loop-slice.slice-index in
    let P : List LoadedSlice → ℕ → Type 0 = λ xs t. load_in c.loop-slice.loads t ≡ load_of xs t in
    c.fit_slice.ensures (take i slices) (drop (i + 1) slices) (λ t. let Q : List LoadedSlice → Type 0 = λ xs. P xs t in subst Q (cut_at slices i c.slice-item.result within) (c.loop-slice.invariant.loads t))

pub loop-slice-preserved : goal.loop-slice-preserved
loop-slice-preserved c =
    let within : c.loop-slice.slice-index < length c.loop-slice.slices = omega (arith, c.loop-slice.auto.slices, c.loop-slice-test.true) in
    let slices = c.loop-slice.slices in
    let i = c.loop-slice.slice-index in
    let new = c.fit_slice.new.slice in
    let one = fitted c in
    record {
      loads = λ t. rw (set_at slices i new within) (one.stands t);
      fitted = fit_step c.args.tasks.now c.args.redundancy slices i c.slice-item.result new within one.fitted ∙ c.loop-slice.invariant.fitted;
      total = fit_total c.args.tasks.now c.args.redundancy slices i c.slice-item.result new within one.fitted ∙ c.loop-slice.invariant.total;
    }
