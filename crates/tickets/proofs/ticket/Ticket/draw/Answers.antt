use Rattle.std.proofs.Common.{arith, ◌≡◌, ap, sym, ◌∙◌}
use Rattle.tickets.proofs.Drawing.{draws_kept, fits_a_word}
use Rattle.tickets.proofs.ticket.Ticket.draw.Goals as goal

pub fetch_add-number-requires : goal.fetch_add-number-requires
fetch_add-number-requires c =
    let p = c.pass.inside in let t = c.self.inside.table.shared in let of = c.pass.invariant in let one = c.self.invariant in
    let same : p.seat.me.0.terms ≡ t.key = ap (λ v. v.terms) c.pass.view_is ∙ c.requires.own.1 ∙ sym (ap (λ v. v.terms) c.self.view_is) in (
      ap (λ v. v.table) c.pass.view_is ∙ c.requires.own.0 ∙ sym (ap (λ v. v.table) c.self.view_is),
      omega (arith, one.words),
      draws_kept t.key t.table_id.slots p.seat.id p.seat.me.0 p.seat.me.1 same (omega (arith, of.left_is, c.if-pass-eq0.false)) (omega (arith, of.one_pass))
          (fits_a_word t.key one.few one.short),
    )
