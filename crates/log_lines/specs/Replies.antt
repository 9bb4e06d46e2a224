-- What the caller was told, by the code of the call and by what it wrote.
use Rattle.std.specs.Prelude.{ℕ, ◌==◌, ◌&&◌, nat_le, take, Option, Some, None, option_map, option_and_then, if◌then◌else◌}
use Rattle.std.specs.List.{list_all}
use Rattle.assignment.specs.Slices.{is_task}
use Rattle.assignment.specs.declared.slice.TheConstants.{MOST_OWNERS}
use Rattle.lease_rule.specs.declared.answer.Verdict.TheVariants.{Allow}
use Rattle.grants.specs.declared.table_call.TableReply.{TableReply}
use Rattle.grants.specs.declared.table_call.TableReply.TheVariants as table_reply
use Rattle.grants.specs.declared.slicelet_call.SliceletReply.{SliceletReply}
use Rattle.grants.specs.declared.slicelet_call.SliceletReply.TheVariants as task_reply
use Rattle.clerk.specs.declared.call.ClerkReply.TheVariants as clerk_reply
use Rattle.clerk.specs.declared.clerk.Found.{Found}
use Rattle.job_calls.specs.declared.reply.ClusterReply.{ClusterReply}
use Rattle.job_calls.specs.declared.reply.ClusterReply.TheVariants as reply
use Rattle.replies.specs.declared.told.NextNumbers.{NextNumbers}
use Rattle.log_line.specs.declared.line.LoggedCall.{LoggedCall}
use Rattle.log_line.specs.declared.told.CallerReply.{CallerReply}
use Rattle.log_line.specs.declared.told.CallerReply.TheVariants as told
use Rattle.log_line.specs.Told.{told_as}
use Rattle.c_calls.specs.Arguments.{kind_of}
use Rattle.c_calls.specs.declared.clerks.owners.OwnersNumbers.{OwnersNumbers}
use Rattle.c_calls.specs.slicelets.KeyHandles.{handle_of}
use Rattle.c_calls.specs.tables.Terms.{phase_of, term_of}
use Rattle.log_lines.specs.Calls.{call_in, grant_in, note_in}
use Rattle.log_lines.specs.Coded.{code_of}
use Rattle.log_lines.specs.Refusals.{refusal_in}
use Rattle.log_lines.specs.declared.call_name.CallName.{CallName}
use Rattle.log_lines.specs.declared.call_name.CallName.TheVariants as name
use Rattle.log_lines.specs.declared.call_name.TableCallName.{TableCallName}
use Rattle.log_lines.specs.declared.call_name.TableCallName.TheVariants as table
use Rattle.log_lines.specs.declared.call_name.TaskCallName.{TaskCallName}
use Rattle.log_lines.specs.declared.call_name.TaskCallName.TheVariants as task
use Rattle.log_lines.specs.declared.message.Message.{Message}
use Rattle.log_lines.specs.declared.message.Message.TheVariants as message
use Rattle.log_lines.specs.declared.numbers.LoggedNumbers.{LoggedNumbers}

-- CALLS THAT ARE DONE

-- the owners that numbers say, where they are few, and tasks
abbrev pub found_in : OwnersNumbers → Option Found
found_in n =
    if nat_le n.count MOST_OWNERS && list_all is_task (take n.count n.tasks)
    then Some (record { generation = n.generation; owners = record { items = take n.count n.tasks } })
    else None

abbrev pub table_reply_in : TableCallName → LoggedNumbers → Message → Option TableReply
table_reply_in table.Take n message = Some (table_reply.Term (term_of n.job_term))
table_reply_in table.Renew n message = Some (table_reply.Term (term_of n.job_term))
table_reply_in table.Propose n message = Some table_reply.Proposed
table_reply_in table.Commit n message = Some (table_reply.Committed n.told.generation)
table_reply_in table.Grant n message = option_map table_reply.Granted (grant_in message)
table_reply_in table.Free n message = Some (table_reply.Freed n.count)
table_reply_in table.Lose n message = Some (table_reply.Lost n.count)

abbrev pub task_reply_in : TaskCallName → LoggedNumbers → Message → Option SliceletReply
task_reply_in task.Start n message = Some task_reply.Started
task_reply_in task.Hear n message = Some task_reply.Heard
task_reply_in task.Release n message = option_map task_reply.Released (note_in message)

-- a key is served under the lease that was told
abbrev pub served_in : LoggedNumbers → Option ClusterReply
served_in n = option_map (λ kind. reply.Verdict (Allow kind n.told.generation)) (kind_of n.told.kind)

-- the reply to a call that is done
abbrev pub done_in : CallName → LoggedNumbers → Message → Option ClusterReply
done_in (name.Table table) n message = option_map reply.Table (table_reply_in table n message)
done_in name.Phase n message = option_map reply.Phase (phase_of n.phase)
done_in (name.Task task) n message = option_map reply.Task (task_reply_in task n message)
done_in name.Serve n message = served_in n
done_in name.Hold n message = option_map reply.Holding (handle_of n.handle)
done_in name.Check n message = Some reply.Continuous
done_in name.Learn n message = Some (reply.Clerk clerk_reply.Learnt)
done_in name.Look n message = option_map reply.Found (found_in n.owners)
done_in name.Forget n message = Some (reply.Clerk clerk_reply.Forgotten)
done_in _ n message = None

-- WHAT THE CALLER WAS TOLD

-- notes and handles are told by what they say, so that their numbers do not count
abbrev pub no_numbers : NextNumbers
no_numbers = record { note = 0; handle = 0 }

-- that a new process of a task began
abbrev pub opened_in : LoggedNumbers → ℕ → Option CallerReply
opened_in n code = if code == 0 then Some (told.Opened n.life) else None

-- that a new process of the table began
abbrev pub restored_in : Message → ℕ → Option CallerReply
restored_in (message.Kept numbers generation) code = if code == 0 then Some (told.Restored generation numbers.deadline) else None
restored_in _ code = None

-- that a sample was taken
abbrev pub sampled_in : ℕ → Option CallerReply
sampled_in code = if code == 0 then Some told.Sampled else None

-- the reply of the machines, where the code is one of the call
abbrev pub reply_in : CallName → LoggedNumbers → Message → ℕ → Option ClusterReply
reply_in call n message code = if code == 0 then done_in call n message else refusal_in call code n.told

abbrev pub told_with : CallName → LoggedNumbers → Message → LoggedCall → ℕ → Option CallerReply
told_with name.Open n message call code = opened_in n code
told_with name.Restore n message call code = restored_in message code
told_with name.Sample n message call code = sampled_in code
told_with other n message call code = option_map (told_as call no_numbers) (reply_in other n message code)

-- what the caller was told
abbrev pub told_in : CallName → LoggedNumbers → Message → LoggedCall → Option CallerReply
told_in call_name n message call = option_and_then (told_with call_name n message call) (code_of n.code)

-- THE CALL AND WHAT ITS CALLER WAS TOLD

pub record Logged : Type 0 where
  pub call : LoggedCall
  pub told : CallerReply

abbrev pub logged_with : CallName → LoggedNumbers → Message → LoggedCall → Option Logged
logged_with call_name n message call = option_map (λ told. record { call = call; told = told }) (told_in call_name n message call)

abbrev pub logged_in : CallName → LoggedNumbers → Message → Option Logged
logged_in call_name n message = option_and_then (logged_with call_name n message) (call_in call_name n message)
