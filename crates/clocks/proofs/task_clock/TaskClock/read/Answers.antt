use Rattle.std.proofs.Common.{IfOk, ap, subst, sym, ◌∙◌}
use Rattle.std.specs.List.{AllByRecursion}
use Rattle.clocks.specs.Pasts.{IsAtMost}
use Rattle.clocks.proofs.Bounding.{IsKeptAnswer, kept_answered, below_kept}
use Rattle.clocks.proofs.task_clock.TaskClock.read.Goals as goal

pub returns-clause-timely : goal.returns-clause-timely
returns-clause-timely c = λ past leads paced honest.
    let clock = c.args.self.now in
    let answered : IsKeptAnswer clock.best past = subst (λ k. IsKeptAnswer k past) (ap (λ k. k.best) leads) (kept_answered clock.drift clock.oldest past honest) in
    let e = sym c.bound.ensures ∙ c.in_ok-value.was in
    subst (λ r. IfOk r (λ value. AllByRecursion (IsAtMost value) past)) e (below_kept clock c.args.now past paced answered)
