use Rattle.std.proofs.Common.{sym}
use Rattle.cluster.proofs.TableTurns.{table_turn}
use Rattle.cluster.proofs.Stopping.{table_stopped}
use Rattle.cluster.proofs.cluster.Cluster.call_table.Goals as goal

pub returns-in-Some : goal.returns-in-Some
returns-in-Some c = λ job past k. table_stopped job past c.args.self.now k c.args.call.now c.in-Some.why (c.in-Some.ensures job past k)

pub returns : goal.returns
returns c = λ job past k.
    table_turn job past c.args.call.now c.args.self.now _ k (sym (c.in_default.ensures job past k)) c.standing_law.ensures.next c.take_table.result c.take_table.ensures.step c.take_table.ensures.memory c.take_table.ensures.grants
    c.take_table.ensures.proposals c.take_table.ensures.others _ c.told_by_table.ensures
