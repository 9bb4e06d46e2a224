use Rattle.std.proofs.Common.{◌≡◌, ◌+◌, List, [], ◌∷◌, ◌++◌, map, take, reverse, sym, ◌∙◌, ap}
use Rattle.std.proofs.lemmas.List.{take_more, reverse-append}
use Rattle.world.specs.declared.step.Step.{Step}
use Rattle.world.specs.Pasts.{reading}
use Rattle.world.proofs.readings.timely.Goals as goal

-- the steps up to one more, newest first
one_more : (steps before : List Step) (step : Step) → steps ≡ before ++ step ∷ [] → reverse steps ≡ step ∷ reverse before
one_more steps before step e = ap reverse e ∙ reverse-append before (step ∷ [])

pub loop-step-preserved : goal.loop-step-preserved
loop-step-preserved c =
    let more = one_more (take (c.loop-step.step-index + 1) c.args.steps.now) (take c.loop-step.step-index c.args.steps.now) c.step-item.result
    (take_more c.args.steps.now c.loop-step.step-index c.step-item.result c.loop-step-test.true ∙ ap (λ (s : Step). take c.loop-step.step-index c.args.steps.now ++ s ∷ []) (sym c.step-item.is)) in
    let before = map reading (reverse (take c.loop-step.step-index c.args.steps.now)) in
    rw (more, sym c.reading.ensures) (c.read.ensures c.args.skew before c.loop-step.invariant)
