use Rattle.std.proofs.Common.{ℕ, ◌∙◌, ap, max}
use Rattle.log_causes.proofs.Opening.{greatest_more}
use Rattle.log_causes.proofs.hint.greatest_life.Goals as goal

pub loop-index-preserved : goal.loop-index-preserved
loop-index-preserved c =
    c.greater_of-greatest.ensures ∙ ap (λ (n : ℕ). max c.loop-index.greatest n) c.begun_life-life.ensures
    ∙ greatest_more c.args.task c.args.entries.now c.loop-index.index c.index-entries-index.result _ c.loop-index-test.true c.index-entries-index.is
    c.loop-index.greatest c.loop-index.invariant
