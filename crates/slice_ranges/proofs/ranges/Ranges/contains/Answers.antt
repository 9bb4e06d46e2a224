use Rattle.std.proofs.Common.{leb, rules}
use Rattle.std.proofs.lemmas.List.Sorted.{IsPartitionPoint-from_clause, IsPartitionedBy-leb}
use Rattle.slice_ranges.proofs.Searching.{found, rises_ordered}
use Rattle.slice_ranges.proofs.ranges.Ranges.contains.Goals as goal

pub returns : goal.returns
returns c =
    let parted = IsPartitionedBy-leb (λ b. b) _ c.args.key (rises_ordered _ _ c.self.invariant.rises) in
    let point = IsPartitionPoint-from_clause (λ b. leb b c.args.key) _ _ c.partition_point.ensures.partitioned (rw c.slice_of.ensures parted) (λ a r q k. search rules) in
    rw (← c.self.view_is) (found _ c.args.key _ c.self.invariant (rw c.slice_of.ensures at c.partition_point.ensures.bound) (rw c.slice_of.ensures at point))
