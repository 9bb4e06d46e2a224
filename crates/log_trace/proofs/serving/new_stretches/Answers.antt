use Rattle.std.proofs.Common.{ℕ, [], sym, subst}
use Rattle.std.specs.Prelude.{Option, Some, None}
use Rattle.log_trace.specs.internals.Watching.{AreStretchesKept}
use Rattle.log_trace.proofs.serving.new_stretches.Goals as goal

pub returns-in_ok-stretches-in-Some : goal.returns-in_ok-stretches-in-Some
returns-in_ok-stretches-in-Some c =
    subst (λ (key : Option ℕ). AreStretchesKept c.args.job [] key (Some c.in_ok-stretches-in-Some.stretches)) (sym c.in-Some.is) c.in_ok-stretches-in-Some.ensures

pub returns-in-None : goal.returns-in-None
returns-in-None c = subst (λ (key : Option ℕ). AreStretchesKept c.args.job [] key None) (sym c.in-None.is) tt
