use Rattle.std.proofs.Common.{arith, ap, ◌∙◌}
use Rattle.tickets.proofs.Drawing.{joins_kept}
use Rattle.tickets.proofs.ticket.take_in.Goals as goal

pub join_seat-requires : goal.join_seat-requires
join_seat-requires c = let p = c.pass.inside in let v = c.args.seat.now in (
  c.requires.table.0,
  ap (λ x. x.table) c.pass.view_is ∙ c.requires.own,
  c.pass.invariant.bare,
  omega (arith, c.requires.table.1),
  joins_kept c.args.word.now.key v.id v.me.0 p.seat.id p.seat.me.0 c.requires.some,
)
