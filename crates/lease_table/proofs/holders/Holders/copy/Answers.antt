use Rattle.std.proofs.Common.{◌≡◌, Vec, Global, ap}
use Rattle.std.specs.List.{AllZip}
use Rattle.std.specs.Vec.{vec_len}
use Rattle.std.proofs.lemmas.List.Elements.{same_from_all_zip}
use Rattle.std.proofs.lemmas.Map.Entries.{lookup_clone}
use Rattle.grants.specs.declared.values.Row.{Row}
use Rattle.lease_table.specs.internals.Holders.{same_holder}
use Rattle.lease_table.proofs.HeldRows.{held_again}
use Rattle.lease_table.proofs.holders.Holders.copy.Goals as goal

pub returns : goal.returns
returns c = λ holder.
    let copied = lookup_clone _ _ (same_holder holder) (λ x y e. ap (same_holder holder) e) _ _ c.in_ok-clone.ensures.cases in
    held_again (λ (rows : Vec Row Global). rows.items) {D = λ v w. AllZip (λ x y. y ≡ x) v.items w.items × (vec_len w ≡ vec_len v)} _ _ copied (λ v w d. same_from_all_zip _ v.items w.items d.0 (λ x y e. e))
