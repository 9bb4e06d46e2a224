use Rattle.std.proofs.Common.{List, All, subst, ◌∙◌}
use Rattle.std.proofs.lemmas.List.{take_all}
use Rattle.std.proofs.lemmas.List.Elements.{All-more}
use Rattle.audit.specs.OneRun.{Entries, Rises, ticket_of}
use Rattle.audit.proofs.points.falls.Goals as goal

pub loop-history-preserved : goal.loop-history-preserved
loop-history-preserved g c =
    All-more (λ (h : Entries g.row.C.Denot). Rises ticket_of h) c.args.histories.now c.loop-history.history-index c.history-item.result c.loop-history-test.true c.loop-history.invariant
    (subst (λ (h : Entries g.row.C.Denot). Rises ticket_of h) (c.entries.ensures ∙ c.history-item.is) c.in_default.ensures)

pub returns : goal.returns
returns g c =
    subst (λ (hs : List (Entries g.row.C.Denot)). All (λ h. Rises ticket_of h) hs) (take_all c.loop-history.history-index c.args.histories.now c.loop-history-test.false) c.loop-history.invariant
