use Rattle.std.proofs.Common.{ℕ, ◌+◌, ◌∙◌, ap, length}
use Rattle.cluster.specs.Made.{handles_made}
use Rattle.cluster.specs.continued.Clusters.{LeadsTo}
use Rattle.cluster.proofs.KeptNumbers.{count_since}
use Rattle.cluster.proofs.cluster.Cluster.next_handle.Goals as goal

pub returns : goal.returns
unfolding LeadsTo
returns c = λ job past k.
    let many = count_since (handles_made past) c.args.self.now.handles.items c.args.self.now.earlier.handles k.handles in
    ap (λ (n : ℕ). n + 1) (ap (λ (n : ℕ). n + length c.as_slice.result.now) c.handles.ensures.value
    ∙ ap (λ (n : ℕ). c.args.self.now.earlier.handles + n) (ap length c.as_slice.ensures.value) ∙ many)
