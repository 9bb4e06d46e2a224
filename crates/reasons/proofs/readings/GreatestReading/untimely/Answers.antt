use Rattle.std.proofs.Common.{◌≤◌, ◌+◌, arith, subst, sym}
use Rattle.std.specs.List.{AllByRecursion}
use Rattle.job_calls.specs.declared.timing.Reading.{Reading}
use Rattle.cluster.specs.Timing.{IsNear, greatest_reading}
use Rattle.reasons.proofs.Nearness.{all_near}
use Rattle.reasons.proofs.readings.GreatestReading.untimely.Goals as goal
use Rattle.reasons.proofs.readings.GreatestReading.untimely.Goals.{else-self-late-via-then-self-late+else-self-late-2, else-self-late-via-else-self-late}

pub returns-else-self-late : goal.returns-else-self-late
returns-else-self-late c = λ skew before is.
    let late = c.in-TaskClock.late in
    let greatest = is.greatest in
    let same = is.same in
    let near : greatest_reading before ≤ late + skew = elim c.else-self-late.branch [
      | else-self-late-via-then-self-late+else-self-late-2 w ↦ (let f = w.if-self-late-2.false in omega (arith, f, greatest, same))
      | else-self-late-via-else-self-late w ↦ (let f = w.if-self-late.false in omega (arith, f, greatest, same))
    ] in
    subst (λ (r : Reading). AllByRecursion (IsNear skew r) before) (sym c.in-TaskClock.is) (all_near skew late before near)
