use Rattle.std.proofs.Common.{◌∙◌, sym}
use Rattle.log_run.proofs.Watching.{none_watched, watch_next, watch_ends}
use Rattle.log_run.proofs.late.late_reading.Goals as goal

pub loop-index-init : goal.loop-index-init
loop-index-init c = none_watched c.args.skew c.args.earlier c.args.entries.now

pub returns-then-is_some : goal.returns-then-is_some
returns-then-is_some c =
    watch_ends c.args.skew c.args.earlier c.args.entries.now c.loop-index.index _ c.loop-index-test.true c.reading-reading.result c.reading-reading.ensures
    c.loop-index.greatest c.late_after-late.result c.loop-index.invariant c.late_after-late.ensures (sym c.is_some.ensures ∙ c.if-is_some.true)

pub loop-index-preserved : goal.loop-index-preserved
loop-index-preserved c =
    watch_next c.args.skew c.args.earlier c.args.entries.now c.loop-index.index _ c.loop-index-test.true c.reading-reading.result c.reading-reading.ensures
    c.loop-index.greatest c.greatest_after-greatest.result c.late_after-late.result c.loop-index.invariant c.late_after-late.ensures (sym c.is_some.ensures ∙ c.if-is_some.false) c.greatest_after-greatest.ensures
