use Rattle.std.proofs.Common.{◌≡◌, ℕ, List, ◌∙◌, ap}
use Rattle.key_handle.specs.declared.handle.KeyHandle.{KeyHandle}
use Rattle.cluster.specs.Numbers.{with_number, kept_with_number}
use Rattle.cluster.specs.Made.{handles_made}
use Rattle.cluster.specs.continued.Clusters.{LeadsTo}
use Rattle.cluster.proofs.KeptNumbers.{kept_from_start, since_start}
use Rattle.cluster.proofs.cluster.Cluster.handle.Goals as goal

pub returns : goal.returns
unfolding LeadsTo
returns c = λ job past k.
    let number = c.args.number in
    let none : c.handles.result ≡ 0 = c.handles.ensures.value ∙ k.earlier_handles in
    c.kept_with_number.ensures ∙ ap (λ (n : ℕ). kept_with_number number n c.as_slice.result.now) none ∙ kept_from_start number c.as_slice.result.now
    ∙ ap (λ (xs : List KeyHandle). with_number number xs)
    (c.as_slice.ensures.value ∙ since_start (handles_made past) c.args.self.now.handles.items c.args.self.now.earlier.handles k.earlier_handles k.handles)
