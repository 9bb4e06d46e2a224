use Rattle.std.proofs.Common.{ap}
use Rattle.std.specs.Prelude.{option_map}
use Rattle.machines.specs.Numbers.{is_within}
use Rattle.assignment.specs.Slices.{Slicing}
use Rattle.clerk.specs.declared.call.ClerkCall.TheVariants.{Learn}
use Rattle.job_calls.specs.declared.call.ClusterCall.TheVariants as call
use Rattle.log_run.proofs.Starting.{sent_more}
use Rattle.log_run.proofs.Unknown.{learn_refused, unsent_told, why_unsent}
use Rattle.log_run.proofs.log_machines.LogMachines.learn_unpublished.Goals as goal

pub returns : goal.returns
returns c = λ job past known none.
    let told =
    unsent_told job past c.args.clerk job.clerks _ c.in_ok-reply.reply c.learn_published.new.self
    (ap (option_map (λ (slicing : Slicing). call.Clerk c.args.clerk (Learn slicing))) none) (c.in_ok-reply.ensures job past known.leads) in
    let why = why_unsent (is_within c.args.clerk job.clerks) in
    let reply =
    learn_refused job past c.args.clerk c.args.generation (c.run_law.ensures.run job past told.1) c.assignments_law.ensures.published c.generations_law.ensures.named none in
    record {
      leads = rw told.0 (c.refusal_law.ensures job past _ why told.1 reply);
      recorded = rw told.0 (c.refused_law.ensures.clerk job past c.args.clerk _ why known.recorded);
      sent = sent_more _ _ job past _ known.sent c.stays_sent-self.ensures.sent c.stays_sent-self.ensures.unsent;
    }
