use Rattle.std.proofs.Common.{◌∙◌, leb, rules, ap, sym, arith, Some}
use Rattle.std.proofs.lemmas.List.Sorted.{IsPartitionPoint-from_clause, IsPartitionedBy-leb}
use Rattle.assignment.proofs.Acceptance.{acceptance}
use Rattle.assignment.proofs.SliceSearch.{slices_ordered, some_place, found_at}
use Rattle.c_calls.proofs.assignments.slice_with.Goals as goal

pub overflow_sub-result : goal.overflow_sub-result
overflow_sub-result c =
    let facts = acceptance c.args.slices.now c.requires in
    let parted = IsPartitionedBy-leb (λ s. s.start) _ c.args.key (slices_ordered _ facts.rising) in
    let point = IsPartitionPoint-from_clause (λ s. leb s.start c.args.key) _ _ c.partition_point-place.ensures.partitioned parted (λ a r q k. search rules) in
    let some = some_place _ c.args.key _ facts c.partition_point-place.ensures.bound point in
    omega (arith, some)

pub bounds-slices-place : goal.bounds-slices-place
bounds-slices-place c =
    let facts = acceptance c.args.slices.now c.requires in
    let parted = IsPartitionedBy-leb (λ s. s.start) _ c.args.key (slices_ordered _ facts.rising) in
    let point = IsPartitionPoint-from_clause (λ s. leb s.start c.args.key) _ _ c.partition_point-place.ensures.partitioned parted (λ a r q k. search rules) in
    let some = some_place _ c.args.key _ facts c.partition_point-place.ensures.bound point in
    omega (arith, some, c.partition_point-place.ensures.bound)

pub returns : goal.returns
returns c =
    let facts = acceptance c.args.slices.now c.requires in
    let parted = IsPartitionedBy-leb (λ s. s.start) _ c.args.key (slices_ordered _ facts.rising) in
    let point = IsPartitionPoint-from_clause (λ s. leb s.start c.args.key) _ _ c.partition_point-place.ensures.partitioned parted (λ a r q k. search rules) in
    found_at _ c.args.key _ facts c.partition_point-place.ensures.bound point c.index-slices-place.result ∙ ap Some (sym c.index-slices-place.is)
