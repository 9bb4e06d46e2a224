use Rattle.std.proofs.Common.{◌≡◌, ◌∙◌, ◌+◌, ◌-◌, ◌++◌, ◌∷◌, ℕ, List, length, ap, arith}
use Rattle.weighted_move.specs.declared.loaded_slice.LoadedSlice.{LoadedSlice}
use Rattle.weighted_move.specs.Loads.{load_of, load_in}
use Rattle.weighted_move.proofs.Loading.{added-le}
use Rattle.weighted_move.proofs.Fitted.{less_one-load, plus_one-load, less_one-few, stands_on, prune_step, fill_step, fit_end}
use Rattle.weighted_move.proofs.fit.fit_slice.Goals as goal

pub take_one_away-requires-clause-small : goal.take_one_away-requires-clause-small
take_one_away-requires-clause-small c t =
    omega (arith, c.away.invariant.change t, c.away.invariant.load, added-le t c.away.slice, c.requires.small t)

pub away-preserved : goal.away-preserved
away-preserved c =
    let known = c.away.invariant in
    let new = c.take_one_away.new.slice in
    record {
      has = λ t. omega (arith, c.take_one_away.ensures.loads t, known.has t);
      change = λ t. omega (arith, c.take_one_away.ensures.loads t, known.change t);
      load = ap (λ (s : LoadedSlice). s.load) c.take_one_away.ensures.slice ∙ less_one-load (load_in c.away.loads) c.away.slice ∙ known.load;
      few =
          let fewer = less_one-few (load_in c.away.loads) c.away.slice in
          let same = ap (λ (s : LoadedSlice). length s.owners) c.take_one_away.ensures.slice in
          omega (arith, fewer, same, known.few);
      prunes = λ before after stands.
          known.prunes before after stands
          ∙ prune_step (length c.as_slice-before.result.now - c.away._turn) (length c.as_slice-before.result.now - (c.away._turn + 1)) before after c.away.slice new (load_in c.away.loads) (omega arith) c.take_one_away.ensures.slice (λ t. stands_on before after c.args.slice.now c.away.slice t _ _ (stands t) (known.change t));
    }

pub add_one-requires-clause-small : goal.add_one-requires-clause-small
add_one-requires-clause-small c t =
    omega (arith, c.more.invariant.change t, c.more.invariant.load, added-le t c.more.slice, c.away.invariant.change t, c.away.invariant.load, added-le t c.away.slice, c.requires.small t)

pub more-preserved : goal.more-preserved
more-preserved c =
    let known = c.more.invariant in
    let new = c.add_one.new.slice in
    record {
      has = λ t. omega (arith, c.add_one.ensures.loads t, known.has t);
      change = λ t. omega (arith, c.add_one.ensures.loads t, known.change t);
      load = ap (λ (s : LoadedSlice). s.load) c.add_one.ensures.slice ∙ plus_one-load (load_in c.more.loads) c.args.tasks.now c.more.slice ∙ known.load;
      few = omega (arith, c.add_one.ensures.room, known.few);
      fills = λ before after stands.
          known.fills before after stands
          ∙ fill_step c.args.tasks.now (c.args.redundancy.low - c.more._turn) (c.args.redundancy.low - (c.more._turn + 1)) before after c.more.slice new (load_in c.more.loads) (omega arith) c.add_one.ensures.slice (λ t. stands_on before after c.away.slice c.more.slice t _ _ (stands t) (known.change t));
    }

pub returns : goal.returns
returns c before after stands =
    let stands_then : (t : ℕ) → load_in c.away.loads t ≡ load_of (before ++ c.away.slice ∷ after) t = λ t. stands_on before after c.args.slice.now c.away.slice t _ _ (stands t) (c.away.invariant.change t) in
    record {
      fitted = fit_end c.args.tasks.now c.args.redundancy (length c.as_slice-before.result.now) c.away._turn c.more._turn before after c.args.slice.now c.away.slice c.more.slice (ap (λ (xs : List ℕ). length xs) c.as_slice-before.ensures.value) (c.away.invariant.prunes before after stands) c.away-test.false (c.more.invariant.fills before after stands_then) c.more-test.false;
      stands = λ t. stands_on before after c.away.slice c.more.slice t _ _ (stands_then t) (c.more.invariant.change t);
    }
