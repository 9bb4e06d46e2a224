use Rattle.std.proofs.Common.{rules, ◌∙◌, ap}
use Rattle.live_run.specs.Reports.{serves}
use Rattle.live_run.proofs.LiveTaskMembers.{gathered_first}
use Rattle.live_run.proofs.live_task.gather.Goals as goal

pub loop-one-init : goal.loop-one-init
loop-one-init c = record {
  gathered = gathered_first c.args.slicelet.now c.args.ticket.now c.args.asks (record { passes = c.push.new.self; draws = c.push-2.new.self; records = c.into_records.result })
      c.args.passes.own c.args.passes.table.draws c.requires.own c.requires.lane c.requires.draws (ap (λ r. serves r.items) c.into_records.ensures ∙ c.requires.quiet) (search rules) (search rules);
  rest = search rules;
  count = search rules;
}
