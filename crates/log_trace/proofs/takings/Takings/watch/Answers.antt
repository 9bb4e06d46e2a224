use Rattle.std.proofs.Common.{◌<◌, length, arith}
use Rattle.std.proofs.lemmas.List.Edits.{map_over_more}
use Rattle.cluster.specs.continued.Jobs.{job_in}
use Rattle.log_trace.specs.internals.Taking.{taking_after}
use Rattle.log_trace.proofs.takings.Takings.watch.Goals as goal

pub loop-place-preserved : goal.loop-place-preserved
loop-place-preserved c = λ job past leads.
    let all = c.args.self.now.all.items in
    let place = c.loop-place.place in
    let low : place < length all = omega (arith, c.loop-place-test.true, c.len-place-end.ensures) in
    rw (c.after.ensures job past leads) (map_over_more (taking_after (job_in job) past c.args.index) all c.loop-place.self.all.items place c.index.result.now low
    (c.loop-place.invariant job past leads) c.index.ensures)
