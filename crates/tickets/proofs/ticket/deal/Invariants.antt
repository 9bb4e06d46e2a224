use Rattle.std.proofs.Common.{◌≡◌, ◌+◌, All, vec_len}
use Rattle.tickets.specs.Tickets.{new_ticket_pass}
use Rattle.tickets.specs.internals.TicketSeats.{IsDealing, ticket_at}
use Rattle.tickets.proofs.ticket.deal.Given as goal

abbrev pub invariant-loop : goal.invariant-loop
invariant-loop l = record {
  len : vec_len l.passes ≡ l.counter;
  table : l.dealer.table_id ≡ l.initial.dealer.table_id;
  dealing : IsDealing l.dealer.me l.terms;
  rest : l.dealer.me.0.passes + l.counter ≡ l.terms.passes;
  each : All (λ pass. pass ≡ new_ticket_pass (ticket_at l.word.table_id l.terms)) l.passes.items;
}
