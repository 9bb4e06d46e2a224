-- The rule of a ticket's word: what was drawn are the numbers below it, each once. These steps are all there are, since `src/ticket_rule.rt` is private
-- and names no other: a number is drawn (`IsDrawnOn`), by which the word grows by one; a pass is dealt, and taken in at the end, at which the word stays.
use Rattle.std.specs.Prelude.{◌≡◌, ℕ, ◌+◌, ◌-◌, ◌*◌, ◌<◌, List, [], ◌∷◌, ◌++◌, All, length, slice_index, sum_by}
use mathlib.Core.Option.{some}
use lib.ListN.{get_elem?}
use Rattle.atomic_table.specs.Table.{State, Me}
use Rattle.tickets.specs.declared.ticket_rule.TicketTerms.{TicketTerms}
use Rattle.tickets.specs.declared.ticket_rule.TicketShare.{TicketShare}
use Rattle.tickets.specs.Tickets.{times, once_below}

abbrev pub share : TicketTerms → ℕ → ℕ → List ℕ → TicketShare
share terms passes left drawn = record { terms = terms; passes = passes; left = left; drawn = drawn }

-- the first seat stands for all passes
abbrev pub first_share : TicketTerms → TicketShare
first_share terms = share terms terms.passes (terms.passes * terms.quota) []

-- a pass that has drawn nothing, and the seat that dealt it
abbrev pub new_share : TicketTerms → TicketShare
new_share terms = share terms 1 terms.quota []

abbrev pub share_after_dealing : TicketShare → TicketShare
share_after_dealing s = share s.terms (s.passes - 1) (s.left - s.terms.quota) s.drawn

-- a seat that took another in, and the one that was taken in
abbrev pub both_shares : TicketShare → TicketShare → TicketShare
both_shares s t = share s.terms (s.passes + t.passes) (s.left + t.left) (s.drawn ++ t.drawn)

abbrev pub no_share : TicketShare
no_share = share (record { passes = 0; quota = 0 }) 0 0 []

abbrev pub share_after_draw : TicketShare → ℕ → TicketShare
share_after_draw s number = share s.terms s.passes (s.left - 1) (s.drawn ++ number ∷ [])

-- a number was drawn that is above all that the seat drew before, and below the most that all passes may draw
abbrev pub IsDrawnOn : {S : Type 0} → Me S TicketShare → ℕ → Me S TicketShare → Type 0
IsDrawnOn before number after = (after ≡ (share_after_draw before.0 number, before.1)) × All (λ earlier. earlier < number) before.0.drawn
    × (number < before.0.terms.passes * before.0.terms.quota)

pub record DrawsEachOnce {S : Type 0} (terms : TicketTerms) (s : State S TicketShare) : Type 0 where
  pub one_word : length s.words ≡ 1
  -- the seats stand for the passes of the ticket
  pub passes : sum_by (λ v. v.passes) s.views ≡ terms.passes
  -- each draw took one of those that remained
  pub left : sum_by (λ v. v.left) s.views + slice_index s.words 0 ≡ terms.passes * terms.quota
  -- what was drawn are the numbers below the word, each once
  pub once : (number : ℕ) → sum_by (λ v. times number v.drawn) s.views ≡ once_below number (slice_index s.words 0)
  -- a seat that stands for no pass has drawn nothing
  pub idle : (seat : ℕ) (v : TicketShare) → get_elem? s.views seat ≡ some v → v.passes ≡ 0 → v.drawn ≡ []
