use Rattle.std.proofs.Common.{◌≡◌, ◌∙◌, ap}
use Rattle.std.specs.Map.{values_of}
use Rattle.std.proofs.lemmas.Map.Entries.{entries_from_clone}
use Rattle.lease_table.proofs.rows.Rows.copy.Goals as goal

pub invariant_of-result : goal.invariant_of-result
invariant_of-result c =
    let copied : c.in_ok-clone.field-0.entries ≡ c.self.inside.map.entries = entries_from_clone _ _ (λ x y e. e) (λ v w e. e) _ _ c.in_ok-clone.ensures.cases in
    rw copied (record {
      keyed = c.self.invariant.keyed;
      numbers = c.self.invariant.numbers;
      rising = c.self.invariant.rising;
      ended = c.self.invariant.ended;
      listed = λ holder. c.in_ok-copy.ensures holder ∙ c.self.invariant.listed holder;
    })

pub returns : goal.returns
returns c =
    let copied : c.in_ok-clone.field-0.entries ≡ c.self.inside.map.entries = entries_from_clone _ _ (λ x y e. e) (λ v w e. e) _ _ c.in_ok-clone.ensures.cases in
    ap values_of copied ∙ c.self.view_is
