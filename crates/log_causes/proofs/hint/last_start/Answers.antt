use Rattle.log_causes.proofs.Opening.{last_step, within_step}
use Rattle.log_causes.proofs.hint.last_start.Goals as goal

pub loop-index-preserved : goal.loop-index-preserved
loop-index-preserved c = record {
  value =
      last_step c.args.task c.args.entries.now c.loop-index.index c.index-entries-index.result _ c.loop-index-test.true c.index-entries-index.is
      c.is_start-here.result c.loop-index.last c.later-last.result c.is_start-here.ensures c.later-last.ensures c.loop-index.invariant.value;
  within = within_step c.is_start-here.result c.loop-index.last c.later-last.result c.loop-index.index c.later-last.ensures c.loop-index.invariant.within;
}
