-- What a call asks, as far as the reason of its reply needs it.
use Rattle.std.specs.Prelude.{ℕ}
use Rattle.grants.specs.declared.slicelet_call.SliceletCall.{SliceletCall}
use Rattle.grants.specs.declared.slicelet_call.SliceletCall.TheVariants.{Start, Hear, Release, Resume}
use Rattle.grants.specs.declared.table_call.TableCall.{TableCall}
use Rattle.grants.specs.declared.table_call.TableCall.TheVariants.{JobTake, JobRenew, Propose, Commit, Grant, Free, Restart}
use Rattle.job_calls.specs.declared.call.ClusterCall.{ClusterCall}
use Rattle.job_calls.specs.declared.call.ClusterCall.TheVariants as call
use Rattle.reasons.specs.declared.question.Question.{Question}
use Rattle.reasons.specs.declared.question.Question.TheVariants as question

abbrev pub asked_of_task : ℕ → SliceletCall → Question
asked_of_task task (Hear grant at) = question.Hear task grant.lease.kind
asked_of_task task (Release kind at) = question.Release task
asked_of_task task (Start life at) = question.Begin task
asked_of_task task (Resume life) = question.Begin task

abbrev pub asked_of_table : TableCall → Question
asked_of_table (JobTake assigner at) = question.Take
asked_of_table (JobRenew number at) = question.Pass
asked_of_table (Propose number slicing at) = question.Pass
asked_of_table (Commit number at) = question.Commit at
asked_of_table (Grant task life at) = question.Table
asked_of_table (Free note at) = question.Table
asked_of_table Restart = question.Table

abbrev pub question_of : ClusterCall → Question
question_of (call.Serve task key at) = question.Key task key at
question_of (call.Hold task key at) = question.Key task key at
question_of (call.Check task handle at) = question.Check task handle at
question_of (call.Task task c) = asked_of_task task c
question_of (call.Table c) = asked_of_table c
question_of _ = question.Other

-- the task that is asked, 0 for none
abbrev pub task_asked : Question → ℕ
task_asked (question.Key task key at) = task
task_asked (question.Check task handle at) = task
task_asked (question.Hear task kind) = task
task_asked (question.Begin task) = task
task_asked (question.Release task) = task
task_asked _ = 0

-- the task that takes a call, 0 for none
abbrev pub task_of : ClusterCall → ℕ
task_of c = task_asked (question_of c)
