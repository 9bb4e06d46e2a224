use Rattle.std.proofs.Common.{◌≡◌, ℕ, Bool, not, sym, ◌∙◌, ap, subst}
use Rattle.machines.specs.Numbers.{is_within}
use Rattle.machines.specs.Refusals.{when}
use Rattle.grants.specs.declared.table_call.TableCall.{TableCall}
use Rattle.job_calls.specs.declared.error.ClusterError.TheVariants as error
use Rattle.cluster.specs.continued.Deliveries.{table_refusal}
use Rattle.job_calls.specs.Jobs.{Job}
use Rattle.cluster.specs.continued.Clusters.{LeadsTo}
use Rattle.cluster.proofs.cluster.Cluster.table_refusal.Goals as goal

pub returns-in-JobTake : goal.returns-in-JobTake
unfolding LeadsTo
returns-in-JobTake c = λ job past k.
    subst (λ (x : TableCall). c.unless.result ≡ table_refusal job past x) (sym c.in-JobTake.is)
    (c.unless.ensures ∙ ap (λ (b : Bool). when (not b) error.NoActor) (c.is_within.ensures ∙ ap (λ (n : ℕ). is_within c.in-JobTake.assigner n) (c.assigners.ensures.value ∙ ap (λ (j : Job). j.assigners) k.same_job)))

pub returns-in-Grant : goal.returns-in-Grant
unfolding LeadsTo
returns-in-Grant c = λ job past k.
    subst (λ (x : TableCall). c.unless-in-Grant.result ≡ table_refusal job past x) (sym c.in-Grant.is)
    (c.unless-in-Grant.ensures
    ∙ ap (λ (b : Bool). when (not b) error.NoActor)
    (c.is_within-in-Grant.ensures ∙ ap (λ (n : ℕ). is_within n c.tasks.result) c.number.ensures.value ∙ ap (λ (n : ℕ). is_within c.in-Grant.task n) (c.tasks.ensures.value ∙ ap (λ (j : Job). j.tasks) k.same_job)))
