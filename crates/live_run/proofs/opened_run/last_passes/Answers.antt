use Rattle.std.proofs.Common.{◌≡◌, ◌∙◌, Some, sym, ap, subst, refl}
use Rattle.std.proofs.lemmas.List.Elements.{All-pop}
use Rattle.history_lock.specs.Passes.{AreNewFrom}
use Rattle.tickets.specs.Tickets.{TicketPassView, new_ticket_pass}
use Rattle.live_run.specs.Reports.{serves}
use Rattle.live_run.proofs.OpenedRunPasses.{new_last}
use Rattle.live_run.proofs.opened_run.last_passes.Goals as goal

pub returns-clause-passes : goal.returns-clause-passes
returns-clause-passes c =
    let table = c.args.table.now.lock in
    let p = c.in-Some in
    let old = subst (λ ps. AreNewFrom 0 table ps) p.ensures.items c.requires.passes.0 in
    ((new_last table c.pop.new.self.items p.pass old).0, p.ensures.len)

pub returns-clause-quiet : goal.returns-clause-quiet
returns-clause-quiet c =
    let table = c.args.table.now.lock in
    let ticket = c.args.ticket.now in
    let p = c.in-Some in
    let q = c.in-Some-pop in
    let old = subst (λ ps. AreNewFrom 0 table ps) p.ensures.items c.requires.passes.0 in
    let last = (new_last table c.pop.new.self.items p.pass old).1 in
    let taken = (All-pop (λ (p : TicketPassView). p ≡ new_ticket_pass ticket) c.args.draws.now.items c.pop-2.new.self.items (Some q.drawn) q.ensures.items c.requires.draws.0).1 in record {
      own = rw (c.new.ensures.pass ∙ last) (refl, refl);
      of_lane = ap (λ p. p.lane) (c.new.ensures.pass ∙ last) ∙ sym c.pop.new.self.ok.0;
      draws = rw (c.new.ensures.draws ∙ taken) (refl, refl);
      quiet = ap serves c.new.ensures.records;
      fed = c.new.ensures.fed;
    }
