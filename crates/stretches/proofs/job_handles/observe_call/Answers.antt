use Rattle.std.proofs.Common.{◌≡◌, ℕ, Bool, true, false, List, ◌∷◌, ◌∙◌, sym, ap, subst, inr}
use Rattle.std.specs.Prelude.{Some, None, if◌then◌else◌}
use Rattle.machines.specs.Numbers.{is_within}
use Rattle.grants.specs.declared.slicelet_call.SliceletCall.{SliceletCall}
use Rattle.grants.specs.declared.slicelet_call.SliceletCall.TheVariants.{Resume}
use Rattle.slicelet.specs.States.{SliceletState}
use Rattle.job_calls.specs.declared.call.ClusterCall.TheVariants as asked
use Rattle.cluster.specs.Pasts.{event, task_calls, history}
use Rattle.cluster.specs.continued.Jobs.{from_start}
use Rattle.stretches.specs.Breaks.{AreBreaks}
use Rattle.stretches.proofs.Tasks.{no_resume, own_task, stands}
use Rattle.stretches.proofs.job_handles.observe_call.Goals as goal

of_job : (b : Bool) (s own : SliceletState) → b ≡ true → Some s ≡ (if b then Some own else None) → s ≡ own
of_job true s own e is = cc
of_job false s own e is = cc

none_of_job : (b : Bool) (own : SliceletState) → b ≡ true → None ≡ (if b then Some own else None) → ⊥
none_of_job true own e is = cc
none_of_job false own e is = cc

pub returns-in-Resume-clause-breaks : goal.returns-in-Resume-clause-breaks
returns-in-Resume-clause-breaks c job past told taken leads few within kept =
    let task = c.args.task in
    let calls = task_calls task past in
    let added : task_calls task (event (asked.Task task c.args.call.now) told ∷ past) ≡ Resume c.in-Resume.life ∷ calls
    = own_task past task c.args.call.now told taken ∙ ap (λ (c : SliceletCall). c ∷ calls) c.in-Resume.is in
    subst (λ (h : List SliceletCall). AreBreaks task h c.begin_process.new.self) (sym added)
    (c.begin_process.ensures.kept task calls c.in-Resume.life kept (few task))

pub returns-in-Some-clause-breaks : goal.returns-in-Some-clause-breaks
returns-in-Some-clause-breaks c job past told taken leads few within kept =
    let task = c.args.task in
    let after = event (asked.Task task c.args.call.now) told ∷ past in
    let accepted = c.told_law.ensures.tasks job after task (c.run_law.ensures.run (from_start job) after leads) in
    let own = of_job (is_within task job.tasks) c.in-Some.slicelet.now (history task after) within (c.in-Some.ensures (from_start job) after leads) in
    let of_task : c.in-Some.slicelet.now.task ≡ task = ap (λ (s : SliceletState). s.task) own in
    let added = own_task past task c.args.call.now told taken in
    subst (λ (n : ℕ). AreBreaks n (task_calls task after) c.observe.new.self) of_task
    (c.observe.ensures.kept (task_calls task past) (task_calls task after)
    (subst (λ (n : ℕ). AreBreaks n (task_calls task past) c.args.kept.now) (sym of_task) kept)
    (stands task after c.in-Some.slicelet.now own accepted) (inr (c.args.call.now, added, no_resume c.args.call.now c.in_default.not-Resume)))
