use Rattle.std.proofs.Common.{ℕ, sym, subst}
use Rattle.cluster.specs.Headline.{MayServe as MayServeKey, IsOwner as OwnsKey}
use Rattle.world.specs.Calls.{calls_in}
use Rattle.world.proofs.Running.{calls_run}
use Rattle.world.proofs.Timing.{timely_calls}
use Rattle.world.proofs.Holding.{may_serve, of_key, while_kept}
use Rattle.world.proofs.laws.interval_law.Goals as goal

pub returns-clause-owner : goal.returns-clause-owner
returns-clause-owner c = λ job run past task key within is_run timely while.
    let own = c.interval_law.ensures.owner job (calls_in job run) (calls_in job past) task while.holds.handle within (calls_run job run is_run) (timely_calls job.policy.skew job run timely) (while_kept job run past task key while is_run) in
    subst (λ (k : ℕ). OwnsKey (calls_in job past) task k) (of_key job run past task key while is_run) own

pub returns-clause-alone : goal.returns-clause-alone
returns-clause-alone c = λ job run past task other key within single is_run timely while may.
    c.interval_law.ensures.alone job (calls_in job run) (calls_in job past) task other while.holds.handle within single (calls_run job run is_run) (timely_calls job.policy.skew job run timely) (while_kept job run past task key while is_run)
    (subst (λ (k : ℕ). MayServeKey job (calls_in job past) other k) (sym (of_key job run past task key while is_run)) (may_serve job past other key may))
