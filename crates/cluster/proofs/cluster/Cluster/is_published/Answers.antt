use Rattle.std.proofs.Common.{ℕ, Bool, true, false, ◌≡◌, ◌∙◌, ap, refl}
use Rattle.std.specs.Prelude.{None, if◌then◌else◌}
use Rattle.assignment.specs.Slices.{Slicing}
use Rattle.cluster.specs.Pasts.{Past, published}
use Rattle.cluster.specs.Made.{is_published_as}
use Rattle.cluster.specs.continued.Jobs.{Forgotten}
use Rattle.cluster.specs.continued.Deliveries.{known_slicing, knows_slicing}
use Rattle.cluster.specs.internals.Proposals.{published_of}
use Rattle.cluster.proofs.KeptNumbers.{kept_slicing}
use Rattle.cluster.proofs.cluster.Cluster.is_published.Goals as goal

known_as : (forgotten : Forgotten) (past : Past) (slicing : Slicing) → is_published_as slicing (known_slicing forgotten past slicing.generation) ≡ knows_slicing forgotten past slicing
known_as forgotten past slicing = by_test (forgotten.generation past slicing.generation)
  where
    by_test : (b : Bool) → is_published_as slicing (if b then None else published slicing.generation past) ≡ (if b then false else is_published_as slicing (published slicing.generation past))
    by_test true = refl
    by_test false = refl

pub returns-in-Some : goal.returns-in-Some
returns-in-Some c = λ job past k.
    let found = c.in-Some.ensures ∙ ap (λ (n : ℕ). published_of c.generation.result c.args.self.now.table n c.as_slice.result.now) c.proposals.ensures
    ∙ kept_slicing job past c.args.self.now k (λ policy calls run. c.generations_law.ensures.committed policy calls run) c.generation.result c.as_slice.result.now c.as_slice.ensures.value
    ∙ ap (known_slicing job.forgotten past) c.generation.ensures in
    c.eq.ensures ∙ ap (is_published_as c.args.assignment.now) found ∙ known_as job.forgotten past c.args.assignment.now

pub returns-in-None : goal.returns-in-None
returns-in-None c = λ job past k.
    let found = c.in-None.ensures ∙ ap (λ (n : ℕ). published_of c.generation.result c.args.self.now.table n c.as_slice.result.now) c.proposals.ensures
    ∙ kept_slicing job past c.args.self.now k (λ policy calls run. c.generations_law.ensures.committed policy calls run) c.generation.result c.as_slice.result.now c.as_slice.ensures.value
    ∙ ap (known_slicing job.forgotten past) c.generation.ensures in
    ap (is_published_as c.args.assignment.now) found ∙ known_as job.forgotten past c.args.assignment.now
