use Rattle.std.proofs.Common.{◌∷◌}
use Rattle.world.specs.declared.step.Step.TheVariants as step
use Rattle.world.specs.Pasts.{event}
use Rattle.world.proofs.Ruling.{run_before}
use Rattle.world.proofs.world.World.headline_law.Goals as goal

pub returns-clause-rule : goal.returns-clause-rule
returns-clause-rule c = λ job later past task key at answer leads.
    let e = event (step.Serve task key at) answer in
    c.rule_law.ensures.told job past task key at answer (run_before job later (e ∷ past) (c.run_law.ensures.run job _ leads))

pub returns-clause-handle : goal.returns-clause-handle
returns-clause-handle c = λ job later past task number at handle answer leads inside made familiar.
    let e = event (step.Check task number at) answer in
    c.handle_law.ensures job past task number at handle answer (run_before job later (e ∷ past) (c.run_law.ensures.run job _ leads)) inside made familiar

pub returns-clause-owner : goal.returns-clause-owner
returns-clause-owner c = λ job later past task key leads may.
    c.owner_law.ensures.owner job past task key (c.run_law.ensures.within job _ leads) (run_before job later past (c.run_law.ensures.run job _ leads)) may

pub returns-clause-one : goal.returns-clause-one
returns-clause-one c = λ job later past task other key leads single may also.
    c.owner_law.ensures.one job past task other key (c.run_law.ensures.within job _ leads) single (run_before job later past (c.run_law.ensures.run job _ leads)) may also
