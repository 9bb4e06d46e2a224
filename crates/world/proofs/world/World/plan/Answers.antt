use Rattle.std.proofs.Common.{◌≡◌, ◌∙◌, sym, ap, subst, refl}
use Rattle.std.specs.Prelude.{Some}
use Rattle.grants.specs.Policies.{Terms}
use Rattle.weighted_move.specs.Policies.{PlanTerms, plan_terms_of}
use Rattle.weighted_move.specs.Plans.{CanPlan, IsPlan, plan_refusal}
use Rattle.world.specs.Jobs.{Job}
use Rattle.world.specs.Front.{draft_of}
use Rattle.world.proofs.Planning.{planned_reply, unplanned_played}
use Rattle.world.proofs.world.World.plan.Goals as goal

pub returns-in-Ok : goal.returns-in-Ok
returns-in-Ok c = λ job past k.
    let draft : draft_of past ≡ Some c.in-Some.draft = sym k.draft ∙ c.in-Some.is in
    let held : c.plan_policy-policy.result ≡ plan_terms_of job.policy.low job.policy.high c.args.bounds =
    c.plan_policy-policy.ensures ∙ ap (λ (t : Terms). plan_terms_of t.low t.high c.args.bounds) (c.policy.ensures ∙ ap (λ (j : Job). j.policy) k.same_job) in
    let can = subst (λ (l : PlanTerms). CanPlan c.in-Some.draft.slices c.args.loads.now c.args.tasks.now l) held c.in-Ok.ensures.can in
    let is = subst (λ (l : PlanTerms). IsPlan c.in-Some.draft.slices c.args.loads.now c.args.tasks.now l c.in-Ok.plan) held c.in-Ok.ensures.planned in
    record {
      run = (planned_reply job past c.args.loads.now c.args.tasks.now c.args.bounds c.in-Some.draft draft c.in-Ok.plan can.planned (can, is), k.run);
      cluster = k.cluster;
      same_job = k.same_job;
      draft = k.draft;
      assigners = k.assigners;
      shares = k.shares;
      book = k.book;
    }

pub returns-in-Err : goal.returns-in-Err
returns-in-Err c = λ job past k.
    let draft : draft_of past ≡ Some c.in-Some.draft = sym k.draft ∙ c.in-Some.is in
    let refusal = plan_refusal c.in-Some.draft.slices c.args.loads.now c.args.tasks.now in
    rw (c.of_plan.ensures, c.in-Err.ensures.refused)
    (unplanned_played job past c.args.loads.now c.args.tasks.now c.args.bounds c.in-Some.draft draft c.args.self.now k refusal refl)
