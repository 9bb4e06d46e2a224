use Rattle.std.proofs.Common.{◌≡◌, true}
use Rattle.grants.specs.Policies.{is_policy}
use Rattle.job_calls.specs.Jobs.{Job}
use Rattle.cluster.specs.continued.Jobs.{from_start}
use Rattle.cluster.specs.Pasts.{table_calls}
use Rattle.cluster.proofs.TableRuns.{table_run}
use Rattle.cluster.proofs.Holding.{HasLaws, serves_between, run_at_point}
use Rattle.cluster.proofs.laws.interval_law.Goals as goal

laws_below : (c : goal.After-owner_law) (job : Job) → is_policy job.policy ≡ true → HasLaws (from_start job)
laws_below c job within = record {
  between = c.between_law.ensures;
  agreeing = c.agreement_law.ensures.permitted;
  keeps = record {
    known = λ later past generation run low. c.known_generations_law.ensures job later past generation run low;
    newest = λ past grant run sent.
        c.leases_law.ensures.generation job.policy (table_calls past) grant within (table_run (from_start job) past run) sent;
  };
}

pub returns-clause-owner : goal.returns-clause-owner
returns-clause-owner c = λ job run past task handle within is_run timely held.
    c.owner_law.ensures.owner job past task handle.key within (run_at_point (from_start job) run past task handle held is_run)
    (serves_between (from_start job) run past task handle held (laws_below c job within) is_run timely)

pub returns-clause-alone : goal.returns-clause-alone
returns-clause-alone c = λ job run past task other handle within single is_run timely held may.
    c.owner_law.ensures.one job past other task handle.key within single (run_at_point (from_start job) run past task handle held is_run) may
    (serves_between (from_start job) run past task handle held (laws_below c job within) is_run timely)
