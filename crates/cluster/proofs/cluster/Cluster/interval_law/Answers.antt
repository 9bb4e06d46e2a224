use Rattle.cluster.specs.continued.Jobs.{from_start}
use Rattle.cluster.proofs.Ruling.{run_before}
use Rattle.cluster.proofs.cluster.Cluster.interval_law.Goals as goal

pub returns-clause-owner : goal.returns-clause-owner
returns-clause-owner c = λ job later run past task handle leads timely held.
    let is_run = run_before (from_start job) later run (c.run_law.ensures.run (from_start job) _ leads) in
    c.interval_law.ensures.owner job run past task handle (c.run_law.ensures.within (from_start job) _ leads) is_run timely held

pub returns-clause-alone : goal.returns-clause-alone
returns-clause-alone c = λ job later run past task other handle leads single timely held may.
    let is_run = run_before (from_start job) later run (c.run_law.ensures.run (from_start job) _ leads) in
    c.interval_law.ensures.alone job run past task other handle (c.run_law.ensures.within (from_start job) _ leads) single is_run timely held may
