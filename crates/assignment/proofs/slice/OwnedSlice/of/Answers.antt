use Rattle.std.proofs.Common.{◌≡◌, ◌∙◌, rules, length, ◌≤◌}
use Rattle.std.proofs.lemmas.List.{take_all}
use Rattle.assignment.proofs.Tasks.{rising_slice}
use Rattle.assignment.proofs.slice.OwnedSlice.of.Goals as goal

pub returns : goal.returns
returns c =
    let ended : length c.as_slice-owner-items.result.now ≤ c.loop-owner.owner-index = search rules in
    let owners : c.loop-owner.owners.items ≡ c.args.slice.now.owners = c.loop-owner.invariant ∙ (take_all c.loop-owner.owner-index c.as_slice-owner-items.result.now ended ∙ c.as_slice-owner-items.ensures) in
    rising_slice c.args.slice.now c.unwrap-2.result c.loop-owner.owners.items c.sorted.result.items (search rules) owners c.sorted.ensures.permutation c.sorted.ensures.sorted c.requires.distinct c.requires.proper.tasks
