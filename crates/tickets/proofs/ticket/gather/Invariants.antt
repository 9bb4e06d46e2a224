use Rattle.std.proofs.Common.{◌≡◌, ◌+◌, ◌<◌, [], All, ℕ, sum_by, vec_len}
use Rattle.tickets.specs.Tickets.{times}
use Rattle.tickets.proofs.ticket.gather.Given as goal

abbrev pub invariant-loop-pass : goal.invariant-loop-pass
invariant-loop-pass l = record {
  table : l.seat.table_id ≡ l.word.table_id;
  bare : l.seat.me.1 ≡ [];
  some : 0 < l.seat.me.0.passes;
  all : l.seat.me.0.passes + vec_len l.passes ≡ vec_len l.fn.passes;
  drew : (number : ℕ) → times number l.seat.me.0.drawn + sum_by (λ pass. times number pass.drawn) l.passes.items ≡ sum_by (λ pass. times number pass.drawn) l.fn.passes.items;
  own : All (λ pass. pass.table ≡ l.word.table_id) l.passes.items;
}

abbrev pub decreases-loop-pass : goal.decreases-loop-pass
decreases-loop-pass l = goal.left-loop-pass l
