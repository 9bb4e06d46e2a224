use Rattle.std.proofs.Common.{ap, ◌∙◌}
use Rattle.std.specs.Prelude.{nat_lt, ℕ}
use Rattle.slicelet.specs.Rules.{covers_key}
use Rattle.slicelet.specs.States.{holding_in}
use Rattle.stretches.specs.internals.Ends.{allowed_to}
use Rattle.stretches.proofs.Serving.{allowed_twice}
use Rattle.stretches.proofs.breaks.serving_end.Goals as goal

pub returns : goal.returns
returns c l at m =
    let h = holding_in (covers_key c.args.key) c.args.slicelet.now in
    ap (λ (end : ℕ). nat_lt at end) (c.lease_end.ensures ∙ ap (λ (from : ℕ). allowed_to h from) c.lease_end-first.ensures)
    ∙ allowed_twice h c.args.from at l m
