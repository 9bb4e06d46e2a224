use Rattle.std.proofs.Common.{ap}
use Rattle.std.specs.Prelude.{option_map}
use Rattle.machines.specs.Numbers.{is_within}
use Rattle.grants.specs.declared.values.Grant.{Grant}
use Rattle.grants.specs.declared.slicelet_call.SliceletCall.TheVariants.{Hear}
use Rattle.job_calls.specs.declared.call.ClusterCall.TheVariants as call
use Rattle.log_run.proofs.Starting.{sent_more}
use Rattle.log_run.proofs.Unknown.{hear_refused, unsent_told, why_unsent}
use Rattle.log_run.proofs.log_machines.LogMachines.hear_unsent.Goals as goal

pub returns : goal.returns
returns c = λ job past known none.
    let told =
    unsent_told job past c.args.task job.tasks _ c.in_ok-reply.reply c.hear_numbered.new.self
    (ap (option_map (λ (grant : Grant). call.Task c.args.task (Hear grant c.args.at))) none) (c.in_ok-reply.ensures job past known.leads) in
    let why = why_unsent (is_within c.args.task job.tasks) in
    let reply = hear_refused job past c.args.task c.args.at c.args.grant (c.run_law.ensures.run job past told.1) c.numbers_law.ensures.place c.numbers_law.ensures.found none in
    record {
      leads = rw told.0 (c.refusal_law.ensures job past _ why told.1 reply);
      recorded = rw told.0 (c.refused_law.ensures.task job past c.args.task _ why known.recorded);
      sent = sent_more _ _ job past _ known.sent c.stays_sent-self.ensures.sent c.stays_sent-self.ensures.unsent;
    }
