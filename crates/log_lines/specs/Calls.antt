-- The call that numbers and a message say, if they say one.
use Rattle.std.specs.Prelude.{Option, Some, None, option_map}
use Rattle.assignment.specs.Slices.{Slicing}
use Rattle.grants.specs.declared.table_call.TableCall.{TableCall}
use Rattle.grants.specs.declared.table_call.TableCall.TheVariants.{JobTake, JobRenew, Propose, Commit, Grant, Free, Restart}
use Rattle.grants.specs.declared.values.Grant as values
use Rattle.grants.specs.declared.values.ReleaseNote.{ReleaseNote}
use Rattle.grants.specs.declared.slicelet_call.SliceletCall.{SliceletCall}
use Rattle.grants.specs.declared.slicelet_call.SliceletCall.TheVariants.{Start, Hear, Release, Resume}
use Rattle.clerk.specs.declared.call.ClerkCall.TheVariants as clerk_call
use Rattle.job_calls.specs.declared.call.ClusterCall.{ClusterCall}
use Rattle.job_calls.specs.declared.call.ClusterCall.TheVariants as call
use Rattle.log_line.specs.declared.line.LoggedCall.{LoggedCall}
use Rattle.log_line.specs.declared.line.LoggedCall.TheVariants as logged
use Rattle.log_line.specs.declared.line.TaskSample.{TaskSample}
use Rattle.log_line.specs.declared.restored.KeptNumbers.{KeptNumbers}
use Rattle.c_calls.specs.Arguments.{kind_of, slice_key_of, task_of}
use Rattle.c_calls.specs.slicelets.KeyHandles.{handle_of}
use Rattle.log_lines.specs.declared.call_name.CallName.{CallName}
use Rattle.log_lines.specs.declared.call_name.CallName.TheVariants as name
use Rattle.log_lines.specs.declared.call_name.TableCallName.{TableCallName}
use Rattle.log_lines.specs.declared.call_name.TableCallName.TheVariants as table
use Rattle.log_lines.specs.declared.call_name.TaskCallName.{TaskCallName}
use Rattle.log_lines.specs.declared.call_name.TaskCallName.TheVariants as task
use Rattle.log_lines.specs.declared.message.Message.{Message}
use Rattle.log_lines.specs.declared.message.Message.TheVariants as message
use Rattle.log_lines.specs.declared.numbers.LoggedNumbers.{LoggedNumbers}

-- WHAT A MESSAGE HAS

abbrev pub assignment_in : Message → Option Slicing
assignment_in (message.Assignment slicing) = Some slicing
assignment_in _ = None

abbrev pub grant_in : Message → Option values.Grant
grant_in (message.Grant grant) = Some grant
grant_in _ = None

abbrev pub note_in : Message → Option ReleaseNote
note_in (message.Note note) = Some note
note_in _ = None

abbrev pub kept_in : Message → Option KeptNumbers
kept_in (message.Kept numbers generation) = Some numbers
kept_in _ = None

-- CALLS

-- a call of the table
abbrev pub table_call_in : TableCallName → LoggedNumbers → Message → Option TableCall
table_call_in table.Take n message = Some (JobTake n.assigner n.at)
table_call_in table.Renew n message = Some (JobRenew n.term n.at)
table_call_in table.Propose n message = option_map (λ slicing. Propose n.term slicing n.at) (assignment_in message)
table_call_in table.Commit n message = Some (Commit n.term n.at)
table_call_in table.Grant n message = option_map (λ task. Grant task n.life n.at) (task_of n.task)
table_call_in table.Free n message = option_map (λ note. Free note n.at) (note_in message)
table_call_in table.Lose n message = Some Restart

-- a call of a slicelet
abbrev pub task_call_in : TaskCallName → LoggedNumbers → Message → Option SliceletCall
task_call_in task.Start n message = Some (Start n.life n.at)
task_call_in task.Hear n message = option_map (λ grant. Hear grant n.at) (grant_in message)
task_call_in task.Release n message = option_map (λ kind. Release kind n.at) (kind_of n.kind)

-- a call of the machines
abbrev pub machine_call_in : CallName → LoggedNumbers → Message → Option ClusterCall
machine_call_in (name.Table table) n message = option_map call.Table (table_call_in table n message)
machine_call_in name.Phase n message = Some call.Phase
machine_call_in name.Restore n message = None
machine_call_in name.Open n message = Some (call.Task n.task (Resume n.life))
machine_call_in (name.Task task) n message = option_map (call.Task n.task) (task_call_in task n message)
machine_call_in name.Serve n message = option_map (λ key. call.Serve n.task key n.at) (slice_key_of n.slice_key)
machine_call_in name.Hold n message = option_map (λ key. call.Hold n.task key n.at) (slice_key_of n.slice_key)
machine_call_in name.Check n message = option_map (λ handle. call.Check n.task handle n.at) (handle_of n.handle)
machine_call_in name.Learn n message = option_map (λ slicing. call.Clerk n.clerk (clerk_call.Learn slicing)) (assignment_in message)
machine_call_in name.Look n message = option_map (call.Look n.clerk) (slice_key_of n.slice_key)
machine_call_in name.Forget n message = Some (call.Clerk n.clerk clerk_call.Forget)
machine_call_in name.Sample n message = None

-- a sample of a task's clock, which no machine sees
abbrev pub sample_in : LoggedNumbers → TaskSample
sample_in n = record { task = n.task; sample = record { sent = n.sent; reading = n.reading }; now = n.at }

-- the same, or that a table is restored, or that a sample is taken
abbrev pub call_in : CallName → LoggedNumbers → Message → Option LoggedCall
call_in name.Restore n message = option_map logged.Restore (kept_in message)
call_in name.Sample n message = Some (logged.Sample (sample_in n))
call_in other n message = option_map logged.Whole (machine_call_in other n message)
