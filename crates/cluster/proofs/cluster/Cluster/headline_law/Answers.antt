use Rattle.std.proofs.Common.{◌∷◌}
use Rattle.cluster.specs.continued.Jobs.{from_start}
use Rattle.job_calls.specs.declared.call.ClusterCall.TheVariants as call
use Rattle.cluster.specs.Pasts.{event}
use Rattle.cluster.proofs.Ruling.{run_before}
use Rattle.cluster.proofs.cluster.Cluster.headline_law.Goals as goal

pub returns-clause-rule : goal.returns-clause-rule
returns-clause-rule c = λ job later past task key at told leads.
    let e = event (call.Serve task key at) told in
    c.rule_law.ensures.serve job past task key at told (run_before (from_start job) later (e ∷ past) (c.run_law.ensures.run (from_start job) _ leads))

pub returns-clause-handle : goal.returns-clause-handle
returns-clause-handle c = λ job later past task handle at told leads inside given familiar.
    let e = event (call.Check task handle at) told in
    c.handle_law.ensures job past task handle at told (run_before (from_start job) later (e ∷ past) (c.run_law.ensures.run (from_start job) _ leads)) inside given familiar

pub returns-clause-owner : goal.returns-clause-owner
returns-clause-owner c = λ job later past task key leads may.
    c.owner_law.ensures.owner job past task key (c.run_law.ensures.within (from_start job) _ leads) (run_before (from_start job) later past (c.run_law.ensures.run (from_start job) _ leads)) may

pub returns-clause-one : goal.returns-clause-one
returns-clause-one c = λ job later past task other key leads single may also.
    c.owner_law.ensures.one job past task other key (c.run_law.ensures.within (from_start job) _ leads) single (run_before (from_start job) later past (c.run_law.ensures.run (from_start job) _ leads)) may also
