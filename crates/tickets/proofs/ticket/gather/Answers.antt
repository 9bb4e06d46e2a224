use Rattle.std.proofs.Common.{arith, ◌≡◌, ap, sum_by, cond, ◌==◌, Some, ◌∙◌}
use Rattle.std.proofs.lemmas.List.Sums.{sum_by_push, sum_by-append}
use Rattle.std.proofs.lemmas.List.Elements.{All-pop}
use Rattle.tickets.specs.Tickets.{TicketPassView, times}
use Rattle.tickets.proofs.ticket.gather.Goals as goal

pub loop-pass-preserved : goal.loop-pass-preserved
loop-pass-preserved c =
    let i = c.loop-pass.invariant in let t = c.take_in.ensures in let p = c.in-Some.pass in let rest = c.pop-in-loop-pass.new.self.items in let e = c.in-Some.ensures.items in record {
      table = t.table ∙ i.table;
      bare = t.bare ∙ i.bare;
      some = omega (arith, t.one_more, i.some);
      all = omega (arith, t.one_more, c.in-Some.ensures.len, i.all);
      drew = λ x. let more = sum_by_push (λ (q : TicketPassView). times x q.drawn) rest p in let was = ap (sum_by (λ (q : TicketPassView). times x q.drawn)) e in
          let drew = ap (times x) t.drew in omega (arith, more, was, drew, sum_by-append (λ y. cond (y == x) 1 0) c.loop-pass.seat.me.0.drawn p.drawn, i.drew x);
      own = (All-pop (λ (q : TicketPassView). q.table ≡ c.args.word.now.table_id) c.loop-pass.passes.items rest (Some p) e i.own).0;
    }
