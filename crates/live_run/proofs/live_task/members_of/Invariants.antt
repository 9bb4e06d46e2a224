use Rattle.std.proofs.Common.{◌≡◌, ◌+◌, All, vec_len}
use Rattle.std.specs.Vec.Iter.{into_iter_items, into_iter_len}
use Rattle.history_lock.specs.Passes.{AreNewFrom}
use Rattle.tickets.specs.Tickets.{new_ticket_pass}
use Rattle.live_run.specs.internals.LiveTasks.{AreMembersFrom, AreNumberedFrom}
use Rattle.live_run.proofs.live_task.members_of.Given as goal

abbrev pub invariant-loop-pass : goal.invariant-loop-pass
invariant-loop-pass l = record {
  count : l.fn.before + vec_len l.members ≡ l.number;
  rest : vec_len l.members + into_iter_len l.pass-iterator ≡ vec_len l.fn.passes;
  passes : AreNewFrom (vec_len l.members) l.slicelet.lock (into_iter_items l.pass-iterator);
  draws : All (λ pass. pass ≡ new_ticket_pass l.ticket) l.draws.items;
  left : vec_len l.draws ≡ into_iter_len l.pass-iterator;
  members : AreMembersFrom l.slicelet l.ticket 0 l.members.items;
  numbers : AreNumberedFrom l.fn.before l.members.items;
}
