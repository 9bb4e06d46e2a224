use Rattle.std.proofs.Common.{◌≡◌, ◌∙◌, ◌+◌, ◌<◌, ◌^◌, false, ap, arith}
use Rattle.std.specs.Prelude.{All}
use Rattle.std.proofs.lemmas.List.{take_rest}
use Rattle.std.proofs.lemmas.List.Elements.{recursion_from_All}
use Rattle.assignment.specs.declared.slice.Slice.{Slice}
use Rattle.assignment.specs.Slices.{has_twice, IsProper}
use Rattle.assignment.proofs.Acceptance.{acceptance}
use Rattle.weighted_move.specs.SliceLoads.{next_start}
use Rattle.weighted_move.proofs.Prefixes.{of_all}
use Rattle.weighted_move.proofs.Starts.{next_above}
use Rattle.weighted_move.proofs.with_loads.slices_with_loads.Goals as goal

pub overflow_sub-end : goal.overflow_sub-end
overflow_sub-end c =
    let slices = c.args.slices.now in
    let known = acceptance slices c.requires.accepted in
    let starts : All (λ s. s.start < 2 ^ 63) slices = λ k d l. (known.proper k d l).starts in
    let above = next_above slices c.loop-index.index c.index-slices-index.result known.rising (recursion_from_All (λ s. s.start < 2 ^ 63) slices starts) c.loop-index-test.true c.index-slices-index.is in
    let end = c.next_start-end.ensures ∙ ap next_start (take_rest slices (c.loop-index.index + 1)) in
    omega (arith, above, end, c.value-start.ensures.value, c.start.ensures)

pub among-requires-clause-distinct : goal.among-requires-clause-distinct
among-requires-clause-distinct c =
    let P : Slice → Type 0 = λ s. has_twice s.owners ≡ false in
    rw c.owners.ensures.owners (of_all c.args.slices.now c.loop-index.index c.index-slices-index.result c.loop-index-test.true c.index-slices-index.is P (acceptance c.args.slices.now c.requires.accepted).distinct)

pub among-requires-clause-known : goal.among-requires-clause-known
among-requires-clause-known c =
    let proper : IsProper c.index-slices-index.result = of_all c.args.slices.now c.loop-index.index c.index-slices-index.result c.loop-index-test.true c.index-slices-index.is IsProper (acceptance c.args.slices.now c.requires.accepted).proper in
    rw c.owners.ensures.owners proper.tasks
