use Rattle.std.proofs.Common.{◌∷◌, ◌++◌, subst}
use Rattle.cluster.specs.Timing.{IsTimely as AreTimely}
use Rattle.cluster.specs.Pasts.{Past as ClusterPast, readings}
use Rattle.cluster.specs.Runs.{IsRun as IsClusterRun}
use Rattle.slice_ranges.specs.Hash.{slice_key}
use Rattle.job_fence.specs.Care.{IsCareful}
use Rattle.world.specs.Jobs.{Job}
use Rattle.world.specs.Pasts.{Past}
use Rattle.world.specs.Calls.{calls_in}
use Rattle.world.specs.Runs.{IsRun}
use Rattle.world.proofs.Ruling.{run_before}
use Rattle.world_fence.specs.Requests.{by_slice_key}
use Rattle.world_fence.proofs.Calling.{called, serves_calls, serves_calls_in_turn, served_calls}
use Rattle.world_fence.proofs.world_law.Goals as goal

run_of : (c : goal.After-owners_law) (job : Job) (later run : Past) → IsRun job (later ++ run) → IsClusterRun job (calls_in job run)
run_of c job later run is_run = c.calls_law.ensures.run job run (run_before job later run is_run)

pub returns-clause-same : goal.returns-clause-same
returns-clause-same c = λ job epoch later run one other leads served also same_key same_generation.
    c.fencing_law.ensures.same job epoch (calls_in job run) (by_slice_key one) (by_slice_key other) (c.run_law.ensures.within job (later ++ run) leads) (run_of c job later run (c.run_law.ensures.run job (later ++ run) leads))
    (serves_calls job epoch run one served) (serves_calls job epoch run other also) same_key same_generation

pub returns-clause-rising : goal.returns-clause-rising
returns-clause-rising c = λ job epoch later run first second leads timely turn same_key others.
    c.fencing_law.ensures.rising job epoch (calls_in job run) (by_slice_key first) (by_slice_key second) (c.run_law.ensures.within job (later ++ run) leads) (run_of c job later run (c.run_law.ensures.run job (later ++ run) leads))
    (c.calls_law.ensures.timely job job.policy.skew run timely) (serves_calls_in_turn job epoch run first second turn) same_key others

pub returns-clause-steady : goal.returns-clause-steady
returns-clause-steady c = λ job epoch later run first second leads timely careful turn same_key same_task.
    c.fencing_law.ensures.steady job epoch (calls_in job run) (by_slice_key first) (by_slice_key second) (c.run_law.ensures.within job (later ++ run) leads) (run_of c job later run (c.run_law.ensures.run job (later ++ run) leads))
    (c.calls_law.ensures.timely job job.policy.skew run timely) careful (serves_calls_in_turn job epoch run first second turn) same_key same_task

pub returns-clause-lives : goal.returns-clause-lives
returns-clause-lives c = λ job epoch later run first second leads turn same_task.
    c.fencing_law.ensures.lives job epoch (calls_in job run) (by_slice_key first) (by_slice_key second) (run_of c job later run (c.run_law.ensures.run job (later ++ run) leads))
    (serves_calls_in_turn job epoch run first second turn) same_task

pub returns-clause-owners : goal.returns-clause-owners
returns-clause-owners c = λ job epoch later run key offered leads served.
    c.owners_law.ensures.owners job epoch (calls_in job run) (slice_key key) offered (c.run_law.ensures.within job (later ++ run) leads) (run_of c job later run (c.run_law.ensures.run job (later ++ run) leads))
    (served_calls job epoch run key offered served)

pub returns-clause-owner : goal.returns-clause-owner
returns-clause-owner c = λ job epoch later past e r offered leads timely careful now served.
    let by = called job epoch past e r now in
    let run = e ∷ past in
    c.owners_law.ensures.owner job epoch (calls_in job past) by.made (by_slice_key r) offered (c.run_law.ensures.within job (later ++ run) leads)
    (subst (λ (calls : ClusterPast). IsClusterRun job calls) by.is (run_of c job later run (c.run_law.ensures.run job (later ++ run) leads)))
    (subst (λ (calls : ClusterPast). AreTimely job.policy.skew (readings calls)) by.is (c.calls_law.ensures.timely job job.policy.skew run timely))
    (subst (λ (calls : ClusterPast). IsCareful r.task calls) by.is careful) by.served (served_calls job epoch past r.key offered served)
