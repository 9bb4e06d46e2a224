-- What each call is answered, by the calls before it, where some of what was made may be forgotten.
use Rattle.std.specs.Prelude.{Bool}
use Rattle.lease_table.specs.Tables.{phase_of}
use Rattle.lease_table.specs.Calls.{table_step}
use Rattle.slicelet.specs.Steps.{slicelet_step}
use Rattle.slicelet.specs.Continuity.{handle_on, held_by, is_strange}
use Rattle.clerk.specs.Calls.{clerk_step}
use Rattle.clerk.specs.Steps.{look_at}
use Rattle.job_calls.specs.declared.error.ClusterError.TheVariants as error
use Rattle.job_calls.specs.declared.call.ClusterCall.{ClusterCall}
use Rattle.job_calls.specs.declared.call.ClusterCall.TheVariants as call
use Rattle.job_calls.specs.declared.reply.ClusterReply.{ClusterReply}
use Rattle.job_calls.specs.declared.reply.ClusterReply.TheVariants as reply
use Rattle.cluster.specs.Pasts.{Past, standing, history, newest_learnt}
use Rattle.cluster.specs.Answers.{by_actor, unless, from_machine, rule_in, hold_reply, check_reply, look_reply}
use Rattle.cluster.specs.continued.Jobs.{Continued}
use Rattle.cluster.specs.continued.Deliveries.{knows_handle, table_refusal, task_refusal, clerk_refusal}

-- what a call is answered; the reply to a `check`, and no other, rests on whether its handle is continuous
abbrev pub reply_to : Continued → Past → ClusterCall → Bool → ClusterReply
reply_to job past (call.Table c) kept = unless (table_refusal job past c) (from_machine error.Table reply.Table (table_step (standing job.policy past) c))
reply_to job past (call.Task task c) kept =
    by_actor task job.tasks (unless (task_refusal job.forgotten past c) (from_machine error.Slicelet reply.Task (slicelet_step (history task past) c)))
reply_to job past (call.Clerk clerk c) kept =
    by_actor clerk job.clerks (unless (clerk_refusal job.forgotten past c) (from_machine error.Clerk reply.Clerk (clerk_step (newest_learnt clerk past) c)))
reply_to job past call.Phase kept = reply.Phase (phase_of (standing job.policy past))
reply_to job past call.Rows kept = reply.Rows (standing job.policy past).rows
reply_to job past (call.Serve task key at) kept = by_actor task job.tasks (reply.Verdict (rule_in past task key at))
reply_to job past (call.Hold task key at) kept = by_actor task job.tasks (hold_reply (held_by (rule_in past task key at) (handle_on key (history task past))))
reply_to job past (call.Check task handle at) kept =
    by_actor task job.tasks (check_reply (knows_handle job.forgotten past handle) (is_strange (history task past) handle) kept)
reply_to job past (call.Look clerk key) kept = by_actor clerk job.clerks (look_reply (look_at (newest_learnt clerk past) key))
