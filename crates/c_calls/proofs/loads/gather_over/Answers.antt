use Rattle.std.proofs.Common.{◌∙◌, sym}
use Rattle.c_calls.specs.LoadRecords.{share_of}
use Rattle.c_calls.specs.Outputs.{output}
use Rattle.c_calls.proofs.Gathering.{above, accepted, no_room, no_share}
use Rattle.c_calls.proofs.loads.gather_over.Goals as goal

pub returns-then-are_above : goal.returns-then-are_above
returns-then-are_above c =
    above c.left.result c.args.book.now (share_of c.args.task c.args.records.now) c.args.assignment.now.slices c.left.ensures _
    (output c.args.loads.now c.args.needed.now) (sym c.no_share.ensures ∙ c.in_default.is) (sym (c.are_above.ensures c.args.task) ∙ c.if-are_above.true)

pub returns-then-loads-slices : goal.returns-then-loads-slices
returns-then-loads-slices c =
    rw c.slices-slices.ensures.slices
    (no_room c.left.result c.args.book.now (share_of c.args.task c.args.records.now) c.args.assignment.now.slices c.left.ensures _ c.args.loads.now c.args.needed.now
    (sym c.no_share.ensures ∙ c.in_default.is) (sym (c.are_above.ensures c.args.task) ∙ c.if-are_above.false) (rw c.slices-slices.ensures.slices at c.if-loads-slices.true))

pub gather_share-requires-clause-accepted : goal.gather_share-requires-clause-accepted
gather_share-requires-clause-accepted c =
    rw c.in-Ok.ensures.made
    (accepted c.left.result c.args.book.now (share_of c.args.task c.args.records.now) c.args.assignment.now.slices c.left.ensures
    (sym (c.are_above.ensures c.args.task) ∙ c.if-are_above.false))

pub returns-in-Err : goal.returns-in-Err
returns-in-Err c =
    no_share c.left.result c.args.book.now (share_of c.args.task c.args.records.now) c.args.assignment.now.slices c.left.ensures _
    (output c.args.loads.now c.args.needed.now) c.in-Err.answer (sym c.no_share.ensures ∙ c.in_default.is)
    (sym (c.are_above.ensures c.args.task) ∙ c.if-are_above.false) (rw c.slices-slices.ensures.slices at c.if-loads-slices.false) c.in-Err.ensures.refused
