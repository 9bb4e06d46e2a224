use Rattle.std.proofs.Common.{◌≡◌, drop, take}
use Rattle.json.specs.Value.{items_view, members_view}
use Rattle.program_io.specs.Repeated.{names_of, repeated_in_items, repeated_in_members}
use Rattle.program_io.proofs.NameSets.{HasNames, names_in}
use Rattle.program_io.proofs.repeated.+repeated.Given as goal

abbrev pub invariant-in_items-loop-item : goal.invariant-in_items-loop-item
invariant-in_items-loop-item l = repeated_in_items (items_view (drop l.item-index l.item-items)) ≡ repeated_in_items (items_view l.item-items)

abbrev pub invariant-in_members-loop-member : goal.invariant-in_members-loop-member
invariant-in_members-loop-member l = record {
  has : HasNames l.before (names_in (take l.member-index l.member-items));
  left : repeated_in_members (names_of (members_view l.member-items)) l.member-index (members_view (drop l.member-index l.member-items))
      ≡ repeated_in_members (names_of (members_view l.member-items)) 0 (members_view l.member-items);
}
