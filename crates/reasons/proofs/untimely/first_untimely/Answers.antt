use Rattle.std.proofs.Common.{◌∷◌, ◌+◌}
use Rattle.job_calls.specs.declared.timing.Reading.TheVariants.{TableClock}
use Rattle.reasons.proofs.Ahead.{none_watched, reads_next, untimely_first, watch_next}
use Rattle.reasons.proofs.untimely.first_untimely.Goals as goal

pub loop-place-init : goal.loop-place-init
loop-place-init c = none_watched c.args.skew c.args.earlier c.args.readings.now

pub returns-in-Some : goal.returns-in-Some
returns-in-Some c =
    let reads = reads_next c.args.earlier c.args.readings.now c.loop-place.place _ c.loop-place-test.true in
    untimely_first c.args.skew (TableClock c.args.earlier ∷ c.args.readings.now) (c.loop-place.place + 1) _ reads
    c.loop-place.greatest c.in-Some.untimely c.in-Some.ensures c.loop-place.invariant

pub loop-place-preserved : goal.loop-place-preserved
loop-place-preserved c =
    let reads = reads_next c.args.earlier c.args.readings.now c.loop-place.place _ c.loop-place-test.true in
    rw c.greater-greatest.ensures
    (watch_next c.args.skew (TableClock c.args.earlier ∷ c.args.readings.now) (c.loop-place.place + 1) _ reads
    c.loop-place.greatest c.in_default.ensures c.loop-place.invariant)
