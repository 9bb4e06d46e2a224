use Rattle.tickets.specs.Tickets.{DrawsFrom}
use Rattle.lock_tests.proofs.ticket_threads.draw_all.Given as goal

abbrev pub invariant-loop : goal.invariant-loop
invariant-loop l = DrawsFrom l.ticket l.pass
