use Rattle.std.proofs.Common.{arith, ◌≡◌, ◌<◌, ◌≤◌, ◌-◌, ◌+◌, ◌*◌, ℕ, sym, subst, ◌∙◌, suc-mul}
use Rattle.tickets.specs.declared.ticket_rule.TicketTerms.{TicketTerms}
use Rattle.tickets.proofs.Drawing.{splits_kept}
use Rattle.tickets.proofs.ticket.deal_one.Goals as goal

-- so many quotas, and one quota less
one_fewer : (passes quota : ℕ) → 0 < passes → passes * quota ≡ (passes - 1) * quota + quota
one_fewer passes quota some = subst (λ (n : ℕ). n * quota ≡ (passes - 1) * quota + quota) (omega arith) (suc-mul (passes - 1) quota)

pub split_seat-seat-requires : goal.split_seat-seat-requires
split_seat-seat-requires c =
    let d = c.requires.dealer.0 in let v = c.args.dealer.now.me.0 in let more = one_fewer v.passes c.args.terms.quota c.requires.dealer.1 in (
      c.requires.table.0,
      omega (arith, c.requires.table.1),
      splits_kept c.args.word.now.key c.args.dealer.now.id v (d.terms_are ∙ sym c.requires.key) c.requires.dealer.1
          (subst (λ (t : TicketTerms). t.quota ≤ v.left) (sym c.requires.key) (omega (arith, d.left_is, more))) d.blank,
    )
