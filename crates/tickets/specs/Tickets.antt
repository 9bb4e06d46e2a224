-- Tickets and their passes, as callers know them.
use Rattle.std.specs.Prelude.{◌≡◌, ℕ, ◌*◌, ◌<◌, ◌==◌, Bool, ◌&&◌, nat_le, nat_lt, cond, List, [], ◌∷◌, ◌++◌, All, sum_by}
use Rattle.std.specs.List.{count_by}
use Rattle.atomic_table.specs.Seated.{TableId}
use Rattle.tickets.specs.declared.ticket_rule.TicketTerms.{TicketTerms}
use Rattle.tickets.specs.declared.ticket.TheConstants.{MOST_PASSES, MOST_DRAWS}

-- which ticket it is, and how many passes it has with how many draws each
pub record TicketView : Type 0 where
  pub table : TableId
  pub terms : TicketTerms

-- a pass: of which ticket, and what it drew, in order
pub record TicketPassView : Type 0 where
  pub table : TableId
  pub terms : TicketTerms
  pub drawn : List ℕ

-- a pass is one of those that the ticket was made with
abbrev pub DrawsFrom : TicketView → TicketPassView → Type 0
DrawsFrom ticket pass = (pass.table ≡ ticket.table) × (pass.terms ≡ ticket.terms)

-- a ticket may have this many passes, with this many draws each
abbrev pub is_allowed : ℕ → ℕ → Bool
is_allowed passes quota = (nat_lt 0 passes && nat_le passes MOST_PASSES) && (nat_lt 0 quota && nat_le quota MOST_DRAWS)

-- a pass of a new ticket
abbrev pub new_ticket_pass : TicketView → TicketPassView
new_ticket_pass ticket = record { table = ticket.table; terms = ticket.terms; drawn = [] }

-- a pass drew a number: above all that it drew before, and below the most that all passes may draw
pub record IsDrawn (old : TicketPassView) (number : ℕ) (new : TicketPassView) : Type 0 where
  pub adds : new ≡ record old { drawn = old.drawn ++ number ∷ [] }
  pub above : All (λ earlier. earlier < number) old.drawn
  pub below : number < old.terms.passes * old.terms.quota

-- how often a number stands in a list
abbrev pub times : ℕ → List ℕ → ℕ
times number numbers = count_by (λ x. x == number) numbers

-- once for the numbers below n
abbrev pub once_below : ℕ → ℕ → ℕ
once_below number n = cond (nat_lt number n) 1 0

-- what the passes drew are the numbers below n, each once
abbrev pub DrewEachBelow : ℕ → List TicketPassView → Type 0
DrewEachBelow n passes = (number : ℕ) → sum_by (λ pass. times number pass.drawn) passes ≡ once_below number n
