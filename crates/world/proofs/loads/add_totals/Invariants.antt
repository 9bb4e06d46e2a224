use Rattle.std.proofs.Common.{◌≡◌, ◌+◌, ◌-◌, ◌≤◌, map, vec_len}
use Rattle.std.specs.List.{range_with_len}
use Rattle.std.specs.Vec.{vec_capacity}
use Rattle.load_ledger.specs.Books.{task_total}
use Rattle.world.proofs.loads.add_totals.Given as goal

-- the totals so far, and room for the others
abbrev pub invariant-loop-place : goal.invariant-loop-place
invariant-loop-place l = record {
  totals : l.totals.items ≡ map (task_total l.book) (range_with_len 1 l.place);
  room : vec_len l.totals + (l.place-end - l.place) ≤ vec_capacity l.totals;
}
