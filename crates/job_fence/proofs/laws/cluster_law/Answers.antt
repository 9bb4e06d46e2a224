use Rattle.std.proofs.Common.{◌∷◌, ◌++◌, subst, inl, inr}
use Rattle.cluster.specs.Pasts.{Past}
use Rattle.cluster.specs.Runs.{IsRun}
use Rattle.cluster.specs.continued.Jobs.{from_start}
use Rattle.cluster.specs.continued.Snapshots.{continued_from}
use Rattle.cluster.proofs.Ruling.{run_before}
use Rattle.job_fence.proofs.laws.cluster_law.Goals as goal

pub returns-clause-run : goal.returns-clause-run
returns-clause-run c = λ job run led. elim led [
  | inl from ↦ run_before (from_start job) from.later run (c.run_law.ensures.run (from_start job) (from.later ++ run) from.leads)
  | inr from ↦ (
      let continued = continued_from job from.before from.remembered in
      let since = c.run_law.ensures.run continued (from.since ++ from.before) from.leads in
      let whole = c.continued_law.ensures.whole job from.before from.since from.remembered from.is_run since from.all_sent in
      run_before (from_start job) from.later run (subst (λ (past : Past). IsRun job past) from.whole whole))
]

pub returns-clause-within : goal.returns-clause-within
returns-clause-within c = λ job run led. elim led [
  | inl from ↦ c.run_law.ensures.within (from_start job) (from.later ++ run) from.leads
  | inr from ↦ c.run_law.ensures.within (continued_from job from.before from.remembered) (from.since ++ from.before) from.leads
]

pub returns-clause-same : goal.returns-clause-same
returns-clause-same c = λ job epoch run one other led.
    c.fencing_law.ensures.same job epoch run one other (returns-clause-within c job run led) (returns-clause-run c job run led)

pub returns-clause-rising : goal.returns-clause-rising
returns-clause-rising c = λ job epoch run first second led.
    c.fencing_law.ensures.rising job epoch run first second (returns-clause-within c job run led) (returns-clause-run c job run led)

pub returns-clause-steady : goal.returns-clause-steady
returns-clause-steady c = λ job epoch run first second led.
    c.fencing_law.ensures.steady job epoch run first second (returns-clause-within c job run led) (returns-clause-run c job run led)

pub returns-clause-lives : goal.returns-clause-lives
returns-clause-lives c = λ job epoch run first second led.
    c.fencing_law.ensures.lives job epoch run first second (returns-clause-run c job run led)

pub returns-clause-owners : goal.returns-clause-owners
returns-clause-owners c = λ job epoch run key offered led.
    c.owners_law.ensures.owners job epoch run key offered (returns-clause-within c job run led) (returns-clause-run c job run led)

pub returns-clause-owner : goal.returns-clause-owner
returns-clause-owner c = λ job epoch past e r offered led.
    c.owners_law.ensures.owner job epoch past e r offered (returns-clause-within c job (e ∷ past) led) (returns-clause-run c job (e ∷ past) led)
