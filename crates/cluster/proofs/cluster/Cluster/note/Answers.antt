use Rattle.std.proofs.Common.{◌≡◌, ℕ, List, ◌∙◌, ap}
use Rattle.grants.specs.declared.values.ReleaseNote.{ReleaseNote}
use Rattle.cluster.specs.Numbers.{with_number, kept_with_number}
use Rattle.cluster.specs.Made.{notes_made}
use Rattle.cluster.specs.continued.Clusters.{LeadsTo}
use Rattle.cluster.proofs.KeptNumbers.{kept_from_start, since_start}
use Rattle.cluster.proofs.cluster.Cluster.note.Goals as goal

pub returns : goal.returns
unfolding LeadsTo
returns c = λ job past k.
    let number = c.args.number in
    let none : c.notes.result ≡ 0 = c.notes.ensures.value ∙ k.earlier_notes in
    c.kept_with_number.ensures ∙ ap (λ (n : ℕ). kept_with_number number n c.as_slice.result.now) none ∙ kept_from_start number c.as_slice.result.now
    ∙ ap (λ (xs : List ReleaseNote). with_number number xs)
    (c.as_slice.ensures.value ∙ since_start (notes_made past) c.args.self.now.notes.items c.args.self.now.earlier.notes k.earlier_notes k.notes)
