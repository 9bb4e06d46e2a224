use Rattle.std.proofs.Common.{ℕ, ◌∙◌, ap}
use Rattle.cluster.specs.internals.Proposals.{published_of}
use Rattle.cluster.proofs.KeptNumbers.{kept_slicing}
use Rattle.cluster.proofs.cluster.Cluster.published.Goals as goal

pub returns : goal.returns
returns c = λ job past k.
    c.published.ensures ∙ ap (λ (n : ℕ). published_of c.args.generation c.args.self.now.table n c.as_slice.result.now) c.proposals-before.ensures
    ∙ kept_slicing job past c.args.self.now k (λ policy calls run. c.generations_law.ensures.committed policy calls run) c.args.generation c.as_slice.result.now c.as_slice.ensures.value
