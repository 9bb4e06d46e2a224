use Rattle.std.proofs.Common.{rules}
use Rattle.cluster.specs.continued.Jobs.{job_in}
use Rattle.run_record.proofs.Handles.{shown_given}
use Rattle.run_record.proofs.Making.{record_next}
use Rattle.run_record.proofs.run_record.RunRecord.record.Goals as goal

pub returns-clause-leads : goal.returns-clause-leads
returns-clause-leads c = λ job past is answered.
    record_next (job_in job) past c.args.call.now c.args.reply.now c.args.self _ is
    (record {
      grants = c.in_ok-record_grant.ensures;
      assignments = c.in_ok-record_proposal.ensures;
      notes = c.in_ok-record_notes.ensures;
      handles = c.in_ok-record_handle.ensures;
      reading = search rules;
    }) (c.in_ok-record_task.ensures job past answered is.tasks) (c.in_ok-record_clerk.ensures job past answered is.clerks)
    (shown_given job past c.args.call.now c.args.reply.now answered)
