use Rattle.std.proofs.Common.{◌≡◌, ap, ◌∙◌}
use Rattle.std.specs.Prelude.{List, reverse}
use Rattle.stretches.specs.declared.stretch.Stretch.{Stretch}
use Rattle.stretches.specs.internals.Adding.{newest_or}
use Rattle.stretches.proofs.Keeping.{are_stretches}
use Rattle.stretches.proofs.key_stretches.KeyStretches.stretches.Goals as goal

pub returns : goal.returns
returns c calls kept =
    let old = c.args.self.now in
    let same : c.in_ok-all.all.items ≡ old.over.items = c.in_ok-all.ensures.items ∙ c.as_slice.ensures.value in
    are_stretches calls old kept c.add_some-2.new.stretches.items
    (c.in_ok-add_some-2.ensures
    ∙ ap (newest_or old.second) (c.in_ok-add_some.ensures ∙ ap (λ (xs : List Stretch). newest_or old.first (reverse xs)) same))
