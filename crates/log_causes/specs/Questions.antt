-- Why a caller should have been told what the machines answer.
use Rattle.std.specs.Prelude.{◌≡◌, ℕ, List, take, Option, Some, None, option_map}
use Rattle.grants.specs.declared.table_error.TableError.{TableError}
use Rattle.grants.specs.declared.table_error.TableError.TheVariants as table_error
use Rattle.lease_rule.specs.declared.answer.Ground.TheVariants as denial
use Rattle.lease_rule.specs.declared.answer.Verdict.TheVariants.{Deny}
use Rattle.grants.specs.declared.slicelet_error.SliceletError.{SliceletError}
use Rattle.grants.specs.declared.slicelet_error.SliceletError.TheVariants as task_error
use Rattle.cluster.specs.continued.Jobs.{Continued, job_in}
use Rattle.cluster.specs.Pasts.{Past, standing}
use Rattle.replies.specs.declared.reply.Reply.TheVariants as reply
use Rattle.replies.specs.declared.reply.Refusal.TheVariants as refusal
use Rattle.log_causes.specs.declared.cause.Cause.{Cause}
use Rattle.log_causes.specs.declared.cause.Cause.TheVariants.{NotSent, ReadAt, ReadAfter}
use Rattle.log_causes.specs.declared.cause.Unsent.{Unsent}
use Rattle.log_line.specs.declared.entry.LogEntry.{LogEntry}
use Rattle.log_line.specs.declared.line.LoggedCall.{LoggedCall}
use Rattle.log_causes.specs.declared.questions.Question.{Question}
use Rattle.log_causes.specs.declared.questions.Question.TheVariants as question
use Rattle.log_line.specs.declared.told.CallerReply.{CallerReply}
use Rattle.log_line.specs.declared.told.CallerReply.TheVariants.{Scripted}
use Rattle.log_causes.specs.Broken.{IsBreakCause}
use Rattle.log_causes.specs.Causes.{IsUnsentFor}
use Rattle.log_causes.specs.Refusals.{holder_cause, late_cause, life_cause, row_cause, task_back_cause, term_in, ticks_in}

-- what is asked of a refusal by the table, and by a task
abbrev pub question_of_table : TableError → Question
question_of_table (table_error.NotHolder term) = question.Term
question_of_table (table_error.JobHeld until) = question.Early
question_of_table (table_error.Grace until) = question.Early
question_of_table (table_error.Held task kind number) = question.Row
question_of_table table_error.ClockBack = question.TableBack
question_of_table _ = question.Nothing

abbrev pub question_of_task : SliceletError → Question
question_of_task task_error.ClockBack = question.TaskBack
question_of_task task_error.TooLate = question.Late
question_of_task task_error.OldLife = question.Life
question_of_task task_error.OtherLife = question.Life
question_of_task _ = question.Nothing

-- what is asked of the right reply: it refuses what nothing sent before, says that a handle is broken, or refuses a call by a term, a reading
-- or a life
abbrev pub question_of : CallerReply → Question
question_of (Scripted (reply.Refused refusal.NotSent)) = question.Unsent
question_of (Scripted reply.Broken) = question.Broken
question_of (Scripted (reply.Verdict (Deny denial.ClockBack))) = question.TaskBack
question_of (Scripted (reply.Refused (refusal.Table error))) = question_of_table error
question_of (Scripted (reply.Refused (refusal.Slicelet error))) = question_of_task error
question_of _ = question.Nothing

-- why nothing sent before what the call of the entry at this place delivers, as a cause
abbrev pub IsUnsentCause : Continued → Past → List LogEntry → ℕ → LoggedCall → Option Cause → Type 0
IsUnsentCause job past entries index c cause =
    (unsent : Option Unsent) × IsUnsentFor job past entries index c unsent × (cause ≡ option_map (λ (u : Unsent). NotSent u) unsent)

-- why the caller of the entry at this place should have been told what this is asked of, by the calls of the machines up to that one
abbrev pub IsAnswerTo : Question → Continued → Past → List LogEntry → ℕ → LoggedCall → Option Cause → Type 0
IsAnswerTo question.Unsent job past entries index c cause = IsUnsentCause job past entries index c cause
IsAnswerTo question.Broken job past entries index c cause = IsBreakCause job (take index entries) c cause
IsAnswerTo question.Term job past entries index c cause = cause ≡ holder_cause (term_in c) (standing job.policy past).term
IsAnswerTo question.Early job past entries index c cause = cause ≡ Some (ReadAt (ticks_in c))
IsAnswerTo question.Row job past entries index c cause = cause ≡ row_cause (standing job.policy past) (ticks_in c)
IsAnswerTo question.TableBack job past entries index c cause = cause ≡ Some (ReadAfter (ticks_in c) (standing job.policy past).last)
IsAnswerTo question.TaskBack job past entries index c cause = cause ≡ task_back_cause (job_in job) past c
IsAnswerTo question.Late job past entries index c cause = cause ≡ late_cause c
IsAnswerTo question.Life job past entries index c cause = cause ≡ life_cause (job_in job) past c
IsAnswerTo question.Nothing job past entries index c cause = cause ≡ None

abbrev pub IsCauseOf : Continued → Past → List LogEntry → ℕ → LoggedCall → CallerReply → Option Cause → Type 0
IsCauseOf job past entries index c wanted cause = IsAnswerTo (question_of wanted) job past entries index c cause
