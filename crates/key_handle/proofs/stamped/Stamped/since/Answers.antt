use Rattle.std.proofs.Common.{leb, rules, ap, ◌∙◌}
use Rattle.std.proofs.lemmas.List.Sorted.{IsPartitionPoint-from_clause, IsPartitionedBy-leb}
use Rattle.key_handle.proofs.Searching.{stamps_ordered, found_none, found_level}
use Rattle.key_handle.proofs.stamped.Stamped.since.Goals as goal

pub returns-then-place-eq0 : goal.returns-then-place-eq0
returns-then-place-eq0 c =
    let parted = IsPartitionedBy-leb (λ s. s.0) _ c.args.key (stamps_ordered _ c.self.invariant) in
    let point = IsPartitionPoint-from_clause (λ s. leb s.0 c.args.key) _ _ c.partition_point-place.ensures.partitioned (rw c.deref.ensures.value parted) (λ a r q k. search rules) in
    let bound = rw c.deref.ensures.value at c.partition_point-place.ensures.bound in
    rw (← c.self.view_is) (found_none _ c.args.key _ c.self.invariant bound (rw c.deref.ensures.value at point) c.if-place-eq0.true)

pub returns-else-place-eq0 : goal.returns-else-place-eq0
returns-else-place-eq0 c =
    let parted = IsPartitionedBy-leb (λ s. s.0) _ c.args.key (stamps_ordered _ c.self.invariant) in
    let point = IsPartitionPoint-from_clause (λ s. leb s.0 c.args.key) _ _ c.partition_point-place.ensures.partitioned (rw c.deref.ensures.value parted) (λ a r q k. search rules) in
    let bound = rw c.deref.ensures.value at c.partition_point-place.ensures.bound in
    rw (← c.self.view_is) (ap (λ s. s.1) c.index.ensures ∙ found_level _ c.args.key _ c.self.invariant bound (rw c.deref.ensures.value at point) c.index.result.now c.if-place-eq0.false)
