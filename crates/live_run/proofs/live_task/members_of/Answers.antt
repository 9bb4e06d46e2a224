use Rattle.std.proofs.Common.{◌≡◌, ℕ, ◌+◌, List, length, Some, sym, subst, arith, vec_len}
use Rattle.std.proofs.lemmas.List.Elements.{All-pop}
use Rattle.std.specs.Vec.Iter.{into_iter_items}
use Rattle.history_lock.specs.Passes.{AreNewFrom}
use Rattle.tickets.specs.Tickets.{TicketPassView, new_ticket_pass}
use Rattle.live_run.specs.declared.worker.Member.{Member}
use Rattle.live_run.specs.internals.LiveTasks.{AreMembersFrom, AreNumberedFrom}
use Rattle.live_run.proofs.LiveTaskMembers.{members_push, new_member, numbers_push}
use Rattle.live_run.proofs.live_task.members_of.Goals as goal

pub loop-pass-preserved : goal.loop-pass-preserved
loop-pass-preserved c =
    let i = c.loop-pass.invariant in let step = c.in-Some.ensures.steps in
    let slicelet = c.args.slicelet.now in let ticket = c.args.ticket.now in
    let lane = vec_len c.loop-pass.members in
    let new = subst (λ passes. AreNewFrom lane slicelet.lock passes) step.0 i.passes in
    let taken = All-pop (λ (p : TicketPassView). p ≡ new_ticket_pass ticket) c.loop-pass.draws.items c.pop.new.self.items (Some c.in-Some-pop.own) c.in-Some-pop.ensures.items i.draws in
    let member : Member = record { number = c.loop-pass.number; pass = c.in-Some.pass; draws = c.in-Some-pop.own } in
    let at : lane ≡ 0 + length c.loop-pass.members.items = omega (arith, c.loop-pass.members.ok.0) in record {
      count = omega (arith, c.in_ok-push.ensures.len, i.count);
      rest = omega (arith, i.rest, step.1, c.in_ok-push.ensures.len);
      passes = subst (λ (n : ℕ). AreNewFrom n slicelet.lock (into_iter_items c.next.new.self)) (sym c.in_ok-push.ensures.len) new.1;
      draws = taken.0;
      left = omega (arith, c.in-Some-pop.ensures.len, step.1, i.left);
      members = subst (λ (members : List Member). AreMembersFrom slicelet ticket 0 members) (sym c.in_ok-push.ensures.items)
          (members_push slicelet ticket 0 c.loop-pass.members.items member i.members (new_member slicelet ticket lane (0 + length c.loop-pass.members.items) member at new.0 taken.1));
      numbers = subst (λ (members : List Member). AreNumberedFrom c.args.before members) (sym c.in_ok-push.ensures.items)
          (numbers_push c.args.before c.loop-pass.members.items member i.numbers (omega (arith, i.count, c.loop-pass.members.ok.0)));
    }
