use Rattle.std.proofs.Common.{◌≡◌, length, vec_len}
use Rattle.live_run.specs.Reports.{AreServesFrom}
use Rattle.live_run.proofs.worker.work.Given as goal

abbrev pub invariant-loop-ask : goal.invariant-loop-ask
invariant-loop-ask g l = record {
  slicelet : l.caller.slicelet.now ≡ l.shared.slicelet.now;
  ticket : l.caller.draws.ticket.now ≡ l.shared.ticket.now;
  terms : l.caller.draws.pass.terms ≡ l.shared.ticket.now.terms;
  lane : l.caller.pass.lane ≡ l.fn.member.pass.lane;
  drawn : length l.caller.draws.pass.drawn ≡ l.ask;
  many : vec_len l.records ≡ l.ask;
  asked : AreServesFrom l.shared.slicelet.now.number 0 l.records.items;
}
