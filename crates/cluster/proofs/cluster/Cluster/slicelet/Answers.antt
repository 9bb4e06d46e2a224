use Rattle.std.proofs.Common.{◌≡◌, ◌<◌, Bool, true, false, List, length, refl, subst}
use Rattle.std.specs.Prelude.{Option, Some, None, if◌then◌else◌}
use Rattle.machines.specs.Numbers.{is_within}
use Rattle.slicelet.specs.States.{SliceletState}
use Rattle.cluster.specs.Pasts.{history}
use Rattle.cluster.proofs.Looking.{own_task}
use Rattle.cluster.proofs.Stopping.{few_tasks}
use Rattle.cluster.proofs.cluster.Cluster.slicelet.Goals as goal

of_job : (b : Bool) (s own : SliceletState) → b ≡ true → s ≡ own → Some s ≡ (if b then Some own else None)
of_job b s own e same = rw (e, same) refl

of_none : (b : Bool) (o : Option SliceletState) (own : SliceletState) → o ≡ None → b ≡ false → o ≡ (if b then Some own else None)
of_none b o own is e = rw (e, is) refl

pub returns-in_default : goal.returns-in_default
returns-in_default c = λ job past k.
    of_none (is_within c.args.task job.tasks) _ (history c.args.task past) refl
    (few_tasks job past c.args.self.now k c.args.task (subst (λ (xs : List SliceletState). is_within c.args.task (length xs) ≡ false) c.as_slice.ensures.value c.in_default.ensures))

pub returns : goal.returns
returns c = λ job past k.
    let inside = subst (λ (xs : List SliceletState). c.in-Some.place < length xs) c.as_slice.ensures.value c.in-Some.ensures.1 in
    let own = own_task job past c.args.task c.in-Some.place c.args.self.now c.index.result.now k c.in-Some.ensures.0 inside c.index.ensures in
    of_job (is_within c.args.task job.tasks) c.index.result.now (history c.args.task past) own.inside own.is
