use Rattle.std.proofs.Common.{List, reverse, subst, sym, take}
use Rattle.log_line.specs.declared.entry.LogEntry.{LogEntry}
use Rattle.log_run.specs.internals.Clocks.{AreClocks}
use Rattle.log_run.specs.Drifts.{AreWithinDrift}
use Rattle.log_run.proofs.Drifting.{wrong_here}
use Rattle.log_run.proofs.Replaying.{one_more}
use Rattle.log_run.proofs.drift.drift_fault.Goals as goal

pub returns-in-Some : goal.returns-in-Some
returns-in-Some c =
    let known = c.loop-index.invariant in
    wrong_here c.args.entries.now c.loop-index.index c.index-entries-index.result c.loop-index-test.true c.index-entries-index.is
    c.args.drift c.in-Some.fault known.within (rw c.in-Some.is at (c.fault.ensures c.args.drift (reverse (take c.loop-index.index c.args.entries.now)) known.clocks))

pub loop-index-preserved : goal.loop-index-preserved
loop-index-preserved c =
    let known = c.loop-index.invariant in
    let before = reverse (take c.loop-index.index c.args.entries.now) in
    let more = sym (one_more c.args.entries.now c.loop-index.index c.index-entries-index.result c.loop-index-test.true c.index-entries-index.is) in
    let right = rw c.in_default.is at (c.fault.ensures c.args.drift before known.clocks) in
    record {
      clocks = subst (λ (es : List LogEntry). AreClocks c.args.drift es c.take.new.self) more (c.in_ok-take.ensures c.args.drift before known.clocks);
      within = subst (λ (es : List LogEntry). AreWithinDrift c.args.drift es) more (right, known.within);
    }
