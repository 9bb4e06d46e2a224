-- Why a call was refused, by its code and by what it told.
use Rattle.std.specs.Prelude.{ℕ, [], ◌∷◌, Option, Some, None, option_map, option_and_then}
use Rattle.lease_rule.specs.declared.answer.Ground.{Ground}
use Rattle.lease_rule.specs.declared.answer.Ground.TheVariants as ground
use Rattle.lease_rule.specs.declared.answer.Verdict.TheVariants.{Deny}
use Rattle.grants.specs.declared.table_error.TableError.{TableError}
use Rattle.grants.specs.declared.table_error.TableError.TheVariants as table
use Rattle.grants.specs.declared.slicelet_error.SliceletError.{SliceletError}
use Rattle.grants.specs.declared.slicelet_error.SliceletError.TheVariants as task
use Rattle.clerk.specs.declared.error.ClerkError.TheVariants.{Old}
use Rattle.job_calls.specs.declared.error.ClusterError.TheVariants as error
use Rattle.job_calls.specs.declared.reply.ClusterReply.{ClusterReply}
use Rattle.job_calls.specs.declared.reply.ClusterReply.TheVariants as reply
use Rattle.c_calls.specs.Arguments.{kind_of, task_of}
use Rattle.c_calls.specs.declared.details.AnswerDetails.{AnswerDetails}
use Rattle.log_lines.specs.Coded.{coded}
use Rattle.log_lines.specs.declared.call_name.CallName.{CallName}
use Rattle.log_lines.specs.declared.call_name.CallName.TheVariants as name

-- why a key is not served
abbrev pub ground_in : ℕ → AnswerDetails → Option Ground
ground_in code told = coded (
    (1, ground.Down) ∷
    (2, ground.ClockBack) ∷
    (3, ground.Ended) ∷
    (4, ground.NotOwned told.generation) ∷
    (5, ground.NoLease) ∷ []) code

-- why a slicelet refuses a call
abbrev pub task_error_in : ℕ → AnswerDetails → Option SliceletError
task_error_in code told = coded (
    (2, task.ClockBack) ∷
    (6, task.NotStarted) ∷
    (7, task.OldLife) ∷
    (8, task.OtherTask) ∷
    (9, task.OtherLife) ∷
    (10, task.Old told.number) ∷
    (11, task.TooLate) ∷
    (12, task.NothingHeld) ∷
    (13, task.HistoryFull) ∷ []) code

-- the lease that is held, if its task and its kind are such
abbrev pub held_in : AnswerDetails → Option TableError
held_in told = option_and_then (λ owner. option_map (λ kind. table.Held owner kind told.number) (kind_of told.kind)) (task_of told.task)

-- why a table refuses a call
abbrev pub table_error_in : ℕ → AnswerDetails → Option TableError
table_error_in code told = option_and_then (λ error. error) (coded (
    (2, Some table.ClockBack) ∷
    (16, Some table.ReadingRange) ∷
    (17, Some (table.JobHeld told.until)) ∷
    (18, Some (table.NotHolder told.number)) ∷
    (19, Some (table.StaleBase told.generation)) ∷
    (20, Some table.Pending) ∷
    (21, Some table.NothingPending) ∷
    (22, Some table.TooManyOwnersForJob) ∷
    (23, Some (table.Grace told.until)) ∷
    (24, held_in told) ∷
    (25, Some table.NoRow) ∷
    (26, Some table.NoAssignment) ∷
    (27, Some table.NumbersSpent) ∷ []) code)

-- the reply to a call that is not done
abbrev pub refusal_in : CallName → ℕ → AnswerDetails → Option ClusterReply
refusal_in (name.Table call) code told = option_map (λ why. reply.Refused (error.Table why)) (table_error_in code told)
refusal_in (name.Task call) code told = option_map (λ why. reply.Refused (error.Slicelet why)) (task_error_in code told)
refusal_in name.Serve code told = option_map (λ why. reply.Verdict (Deny why)) (ground_in code told)
refusal_in name.Hold code told = option_map (λ why. reply.Verdict (Deny why)) (ground_in code told)
refusal_in name.Check code told = coded ((14, reply.Broken) ∷ (15, reply.Refused error.Stranger) ∷ []) code
refusal_in name.Learn code told = coded ((28, reply.Refused (error.Clerk (Old told.generation))) ∷ []) code
refusal_in name.Look code told = coded ((29, reply.Refused error.Unknown) ∷ []) code
refusal_in _ code told = None
