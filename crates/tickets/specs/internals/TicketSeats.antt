-- Seats of passes between two calls: what only the proofs and private functions need.
use Rattle.std.specs.Prelude.{◌≡◌, ℕ, ◌+◌, ◌*◌, ◌<◌, ◌≤◌, List, [], length, sum_by}
use Rattle.atomic_table.specs.Seated.{TableId}
use Rattle.atomic_table.specs.Table.{Me}
use Rattle.tickets.specs.declared.ticket_rule.TicketTerms.{TicketTerms}
use Rattle.tickets.specs.declared.ticket_rule.TicketShare.{TicketShare}
use Rattle.tickets.specs.declared.ticket.TheConstants.{MOST_PASSES, MOST_DRAWS}
use Rattle.tickets.specs.Tickets.{TicketView, TicketPassView, times}

abbrev pub ticket_at : TableId → TicketTerms → TicketView
ticket_at table terms = record { table = table; terms = terms }

abbrev pub pass_at : TableId → TicketShare → TicketPassView
pass_at table share = record { table = table; terms = share.terms; drawn = share.drawn }

-- a ticket of one word, with this number of passes
pub record IsOfOneWord (table : TableId) (terms : TicketTerms) (passes : ℕ) : Type 0 where
  pub words : table.words ≡ 1
  pub slots : table.slots ≡ 0
  pub passes_are : terms.passes ≡ passes
  pub some : 0 < terms.passes
  pub few : terms.passes ≤ MOST_PASSES
  pub short : terms.quota ≤ MOST_DRAWS

-- the seat of a pass between two calls
pub record IsResting {S : Type 0} (me : Me S TicketShare) (left : ℕ) : Type 0 where
  pub bare : me.1 ≡ []
  pub one_pass : me.0.passes ≡ 1
  pub left_is : me.0.left ≡ left
  pub counted : left + length me.0.drawn ≡ me.0.terms.quota

-- the seat that deals the passes of a new ticket
pub record IsDealing {S : Type 0} (me : Me S TicketShare) (terms : TicketTerms) : Type 0 where
  pub bare : me.1 ≡ []
  pub terms_are : me.0.terms ≡ terms
  pub left_is : me.0.left ≡ me.0.passes * terms.quota
  pub blank : me.0.drawn ≡ []

-- the seat stands for these passes
pub record IsWhole {S : Type 0} (me : Me S TicketShare) (passes : List TicketPassView) : Type 0 where
  pub bare : me.1 ≡ []
  pub all : me.0.passes ≡ length passes
  pub drew : (number : ℕ) → times number me.0.drawn ≡ sum_by (λ pass. times number pass.drawn) passes
