use Rattle.std.proofs.Common.{ℕ, ◌∙◌, ap}
use Rattle.cluster.specs.Numbers.{kept_with_number}
use Rattle.cluster.proofs.KeptNumbers.{kept_grant}
use Rattle.cluster.proofs.cluster.Cluster.grant.Goals as goal

pub returns : goal.returns
returns c = λ job past k.
    c.kept_with_number.ensures ∙ ap (λ (n : ℕ). kept_with_number c.args.number n c.as_slice.result.now) c.grants.ensures
    ∙ kept_grant job past c.args.self.now k c.args.number c.as_slice.result.now c.as_slice.ensures.value
