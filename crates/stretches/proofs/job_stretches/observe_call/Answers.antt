use Rattle.std.proofs.Common.{◌≡◌, Bool, true, false, List, ◌∷◌, ◌∙◌, sym, ap, subst, inr}
use Rattle.std.specs.Prelude.{Some, None, if◌then◌else◌}
use Rattle.machines.specs.Numbers.{is_within}
use Rattle.grants.specs.declared.slicelet_call.SliceletCall.{SliceletCall}
use Rattle.grants.specs.declared.slicelet_call.SliceletCall.TheVariants.{Resume}
use Rattle.slicelet.specs.States.{SliceletState}
use Rattle.job_calls.specs.declared.call.ClusterCall.TheVariants as asked
use Rattle.cluster.specs.Pasts.{event, task_calls, history}
use Rattle.cluster.specs.continued.Jobs.{from_start}
use Rattle.stretches.specs.Stretches.{IsKept}
use Rattle.stretches.proofs.Tasks.{both_ok, no_resume, own_task, stands}
use Rattle.stretches.proofs.job_stretches.observe_call.Goals as goal

of_job : (b : Bool) (s own : SliceletState) → b ≡ true → Some s ≡ (if b then Some own else None) → s ≡ own
of_job true s own e is = cc
of_job false s own e is = cc

none_of_job : (b : Bool) (own : SliceletState) → b ≡ true → None ≡ (if b then Some own else None) → ⊥
none_of_job true own e is = cc
none_of_job false own e is = cc

pub returns-in-Resume : goal.returns-in-Resume
returns-in-Resume c job past key told taken leads few within kept =
    let calls = task_calls c.args.task past in
    let added : task_calls c.args.task (event (asked.Task c.args.task c.args.call.now) told ∷ past) ≡ Resume c.in-Resume.life ∷ calls
    = own_task past c.args.task c.args.call.now told taken ∙ ap (λ (c : SliceletCall). c ∷ calls) c.in-Resume.is in
    both_ok c.begin_process.result c.begin_process.ensures.key (c.begin_process.ensures.kept calls c.in-Resume.life kept.1 (few c.args.task))
    (λ same is. (same ∙ kept.0, subst (λ (h : List SliceletCall). IsKept h c.begin_process.new.self) (sym added) is))

pub returns-in-Some : goal.returns-in-Some
returns-in-Some c job past key told taken leads few within kept =
    let after = event (asked.Task c.args.task c.args.call.now) told ∷ past in
    let accepted = c.told_law.ensures.tasks job after c.args.task (c.run_law.ensures.run (from_start job) after leads) in
    let own = of_job (is_within c.args.task job.tasks) c.in-Some.slicelet.now (history c.args.task after) within (c.in-Some.ensures (from_start job) after leads) in
    let added = own_task past c.args.task c.args.call.now told taken in
    both_ok c.observe.result c.observe.ensures.key
    (c.observe.ensures.kept (task_calls c.args.task past) (task_calls c.args.task after) kept.1
    (stands c.args.task after c.in-Some.slicelet.now own accepted) (inr (c.args.call.now, added, no_resume c.args.call.now c.in_default.not-Resume)))
    (λ same is. (same ∙ kept.0, is))

pub returns-in-None : goal.returns-in-None
returns-in-None c job past key told taken leads few within kept =
    let after = event (asked.Task c.args.task c.args.call.now) told ∷ past in
    absurd (none_of_job (is_within c.args.task job.tasks) (history c.args.task after) within (c.in-None.ensures (from_start job) after leads))
