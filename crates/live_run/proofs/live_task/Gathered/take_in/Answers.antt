use Rattle.live_run.proofs.LiveTaskMembers.{gathered_more}
use Rattle.live_run.proofs.live_task.Gathered.take_in.Goals as goal

pub returns-clause-gathered : goal.returns-clause-gathered
returns-clause-gathered c =
    gathered_more c.args.slicelet.now c.args.ticket.now c.args.asks c.args.self.now (record { passes = c.push.new.self; draws = c.push-2.new.self; records = c.append.new.self }) c.args.worked
    c.requires.gathered c.requires.worked c.in_ok-push.ensures.items c.in_ok-push-2.ensures.items c.in_ok-append.ensures.items
