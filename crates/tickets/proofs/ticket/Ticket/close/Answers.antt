use Rattle.std.proofs.Common.{arith, ◌≡◌, ℕ, List, [], ◌∷◌, sym, ap, ◌∙◌}
use Rattle.std.specs.List.{slice_index}
use mathlib.Core.Option.{some, some-injective, some-ne-none}
use lib.ListN.{get_elem?}
use Rattle.tickets.specs.Tickets.{once_below}
use Rattle.tickets.proofs.Drawing.{knows_all}
use Rattle.tickets.proofs.ticket.Ticket.close.Goals as goal

first_word : (words : List ℕ) (n : ℕ) → get_elem? words 0 ≡ some n → slice_index words 0 ≡ n
first_word [] n e = absurd (some-ne-none n (sym e))
first_word (w ∷ words) n e = some-injective w n e

pub returns-clause-closed : goal.returns-clause-closed
returns-clause-closed c x =
    let last = c.close_with-closed.ensures.values.2 in let s = last.0 in let seat = c.gather-seat.result in let key = c.self.inside.table.shared.key in
    let whole = c.gather-seat.ensures.gathered in
    let all : seat.me.0.passes ≡ key.passes = omega (arith, whole.all, c.len.ensures, c.if-len-self.false, c.self.invariant.passes_are) in
    let known = knows_all key s seat.id seat.me.0 last.1.0 last.1.1 all x in
    let word : slice_index s.words 0 ≡ c.word-drawn.result = first_word s.words c.word-drawn.result (ap (λ ws. get_elem? ws 0) last.2 ∙ c.word-drawn.ensures) in
    sym (whole.drew x) ∙ known ∙ ap (once_below x) word
