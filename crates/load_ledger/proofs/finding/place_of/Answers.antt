use Rattle.std.proofs.Common.{rules, arith, leb}
use Rattle.std.proofs.lemmas.List.Sorted.{IsPartitionPoint-from_clause, IsPartitionedBy-leb}
use Rattle.assignment.specs.declared.slice.Slice.{Slice}
use Rattle.assignment.proofs.Acceptance.{acceptance}
use Rattle.load_ledger.proofs.Places.{some_before, alone_in, starts_rise}
use Rattle.load_ledger.proofs.finding.place_of.Goals as goal

pub overflow_sub-result : goal.overflow_sub-result
overflow_sub-result c =
    let parted = IsPartitionedBy-leb (λ (s : Slice). s.start) c.args.slices.now c.args.key (starts_rise c.args.slices.now (acceptance c.args.slices.now c.requires).rising) in
    let point = IsPartitionPoint-from_clause (λ (s : Slice). leb s.start c.args.key) c.args.slices.now c.partition_point.result c.partition_point.ensures.partitioned parted (λ a r q k. search rules) in
    some_before c.args.slices.now c.args.key c.partition_point.result c.requires (omega arith) point

pub returns-clause-within : goal.returns-clause-within
returns-clause-within c = omega (arith, overflow_sub-result c)

pub returns-clause-alone : goal.returns-clause-alone
returns-clause-alone c =
    let parted = IsPartitionedBy-leb (λ (s : Slice). s.start) c.args.slices.now c.args.key (starts_rise c.args.slices.now (acceptance c.args.slices.now c.requires).rising) in
    let point = IsPartitionPoint-from_clause (λ (s : Slice). leb s.start c.args.key) c.args.slices.now c.partition_point.result c.partition_point.ensures.partitioned parted (λ a r q k. search rules) in
    alone_in c.args.slices.now c.args.key c.partition_point.result c.requires (omega arith) point
