use Rattle.std.proofs.Common.{◌∙◌, sym}
use Rattle.audit.specs.Shown.{turn_of}
use Rattle.audit.specs.declared.points.Point.{Point}
use Rattle.audit.proofs.Rising.{twice_at, rises_on}
use Rattle.audit.proofs.points.twice.Goals as goal

pub returns-then-ticket-before : goal.returns-then-ticket-before
returns-then-ticket-before c =
    rw c.ticket-ticket.ensures
    (twice_at (λ (p : Point). (turn_of p).ticket) c.args.points.now c.loop-i.i c.index-points-i.result c.index-points-i-in-loop-i.result c.loop-i.auto.i c.loop-i-test.true
    c.index-points-i.is c.index-points-i-in-loop-i.is (sym c.ticket-ticket.ensures ∙ c.if-ticket-before.true ∙ c.ticket-before.ensures))

pub loop-i-preserved : goal.loop-i-preserved
loop-i-preserved c =
    rises_on (λ (p : Point). (turn_of p).ticket) c.args.points.now c.loop-i.i c.index-points-i.result c.index-points-i-in-loop-i.result c.loop-i.auto.i c.loop-i-test.true
    c.index-points-i.is c.index-points-i-in-loop-i.is c.requires c.loop-i.invariant (λ same. c.if-ticket-before.false (c.ticket-ticket.ensures ∙ same ∙ sym c.ticket-before.ensures))
