-- The reasons of replies: what the values are, and how the ground of a reply follows from them.
use Rattle.std.specs.Prelude.{◌≡◌, ◌≢◌, ℕ, ◌<◌, ◌≤◌, Bool, true, false, List, Option, Some, None}
use Rattle.lease_rule.specs.declared.lease.Kind.{Kind}
use Rattle.lease_rule.specs.declared.answer.Verdict.{Verdict}
use Rattle.grants.specs.declared.slicelet_call.SliceletCall.{SliceletCall}
use Rattle.grants.specs.declared.slicelet_call.SliceletCall.TheVariants.{Start, Hear, Resume}
use Rattle.grants.specs.declared.slicelet_error.SliceletError.{SliceletError}
use Rattle.grants.specs.declared.slicelet_error.SliceletError.TheVariants as slicelet
use Rattle.grants.specs.declared.table_call.TableCall.{TableCall}
use Rattle.grants.specs.declared.table_call.TableCall.TheVariants.{JobTake, JobRenew, Propose, Commit}
use Rattle.grants.specs.declared.table_error.TableError.{TableError}
use Rattle.grants.specs.declared.table_error.TableError.TheVariants as table
use Rattle.grants.specs.declared.values.Grant.{Grant}
use Rattle.grants.specs.declared.values.JobTerm.{JobTerm}
use Rattle.grants.specs.declared.values.Row.{Row}
use Rattle.grants.specs.Assignments.{generation_of}
use Rattle.grants.specs.JobTerms.{last_number}
use Rattle.grants.specs.Rows.{first_up_to}
use Rattle.lease_table.specs.Steps.{is_holder}
use Rattle.lease_table.specs.Tables.{Standing}
use Rattle.key_handle.specs.declared.handle.KeyHandle.{KeyHandle}
use Rattle.slicelet.specs.Continuity.{held_by}
use Rattle.slicelet.specs.States.{SliceletState, greatest_in}
use Rattle.job_calls.specs.declared.call.ClusterCall.{ClusterCall}
use Rattle.job_calls.specs.declared.call.ClusterCall.TheVariants as call
use Rattle.job_calls.specs.declared.error.ClusterError.TheVariants as error
use Rattle.job_calls.specs.declared.reply.ClusterReply.{ClusterReply}
use Rattle.job_calls.specs.declared.reply.ClusterReply.TheVariants as reply
use Rattle.job_calls.specs.declared.timing.Reading.TheVariants.{TableClock, TaskClock}
use Rattle.job_calls.specs.Readings.{reading}
use Rattle.cluster.specs.Answers.{hold_reply}
use Rattle.cluster.specs.Pasts.{Past, standing, history}
use Rattle.cluster.specs.continued.Jobs.{Continued}
use Rattle.reasons.specs.declared.places.TaskPlaces.{TaskPlaces}
use Rattle.reasons.specs.declared.question.Question.TheVariants as question
use Rattle.reasons.specs.declared.reason.Break.{Break}
use Rattle.reasons.specs.declared.reason.Reason.{Reason}
use Rattle.reasons.specs.declared.reason.Reason.TheVariants as why
use Rattle.reasons.specs.declared.reason.RequestReason.{RequestReason}
use Rattle.reasons.specs.Breaking.{IsBreak}
use Rattle.reasons.specs.Placed.{Placed, places_of}
use Rattle.reasons.specs.Questions.{question_of, task_of}
use Rattle.reasons.specs.Values.{rule_by, IsOfRequest}

abbrev pub by_table : TableError → ClusterReply
by_table why = reply.Refused (error.Table why)

abbrev pub by_task : SliceletError → ClusterReply
by_task why = reply.Refused (error.Slicelet why)

-- OF VERDICTS AND HANDLES

-- a request is answered by a verdict: a `serve` with the verdict, and a `hold` with a handle where it allows the key
abbrev pub IsRuled : ClusterCall → ClusterReply → Verdict → Type 0
IsRuled (call.Serve task key at) r verdict = r ≡ reply.Verdict verdict
IsRuled (call.Hold task key at) r verdict = (handle : KeyHandle) × (r ≡ hold_reply (held_by verdict handle))
IsRuled _ r verdict = ⊥

-- the values of the task and the table, and the rule over them gives the reply
pub record IsRequestReason (t : Standing) (s : SliceletState) (places : TaskPlaces) (c : ClusterCall) (r : ClusterReply) (reason : RequestReason) : Type 0 where
  pub task : ℕ
  pub key : ℕ
  pub at : ℕ
  pub asks : question_of c ≡ question.Key task key at
  pub values : IsOfRequest t s places.heard key at reason
  pub rules : IsRuled c r (rule_by reason.rule at)

pub record IsBrokenReason (t : Standing) (s : SliceletState) (places : TaskPlaces) (c : ClusterCall) (r : ClusterReply) (b : Break) : Type 0 where
  pub task : ℕ
  pub handle : KeyHandle
  pub at : ℕ
  pub checks : c ≡ call.Check task handle at
  pub told : r ≡ reply.Broken
  pub breaks : IsBreak t s places handle at b

-- OF READINGS

-- the last accepted reading, and the reading of the call is below it
pub record IsTableReading (t : Standing) (c : ClusterCall) (r : ClusterReply) (last : ℕ) : Type 0 where
  pub told : r ≡ by_table table.ClockBack
  pub is : last ≡ t.last
  pub at : ℕ
  pub reads : reading c ≡ TableClock at
  pub below : at < last

pub record IsTaskReading (s : SliceletState) (c : ClusterCall) (r : ClusterReply) (last : ℕ) : Type 0 where
  pub told : r ≡ by_task slicelet.ClockBack
  pub is : last ≡ s.last
  pub at : ℕ
  pub reads : reading c ≡ TaskClock at
  pub below : at < last

-- OF THE TABLE

-- the first open row of the committed generation or an older one that ends above the reading
pub record IsHeldReason (t : Standing) (c : ClusterCall) (r : ClusterReply) (row : Row) : Type 0 where
  pub number : ℕ
  pub at : ℕ
  pub commits : c ≡ call.Table (Commit number at)
  pub told : r ≡ by_table (table.Held row.task row.kind row.number)
  pub first : first_up_to (generation_of t.committed) at t.rows ≡ Some row
  pub reached : row.generation ≤ generation_of t.committed
  pub runs : at < row.table_ends

-- the last term is another one than that of the call, or has ended
abbrev pub IsNoHolder : ℕ → ℕ → ClusterReply → Option JobTerm → Type 0
IsNoHolder number at r term = (r ≡ by_table (table.NotHolder (last_number term))) × (is_holder number at term ≡ false)

-- for a call that takes the job lease: the last term has not ended
abbrev pub IsHolderAt : ℕ → ClusterReply → Option JobTerm → Type 0
IsHolderAt at r None = ⊥
IsHolderAt at r (Some term) = (r ≡ by_table (table.JobHeld term.until)) × (at < term.until)

abbrev pub IsTermOf : TableCall → ClusterReply → Option JobTerm → Type 0
IsTermOf (JobTake assigner at) r term = IsHolderAt at r term
IsTermOf (JobRenew number at) r term = IsNoHolder number at r term
IsTermOf (Propose number slicing at) r term = IsNoHolder number at r term
IsTermOf (Commit number at) r term = IsNoHolder number at r term
IsTermOf _ r term = ⊥

pub record IsTermReason (t : Standing) (c : ClusterCall) (r : ClusterReply) (term : Option JobTerm) : Type 0 where
  pub is : term ≡ t.term
  pub made : TableCall
  pub calls : c ≡ call.Table made
  pub decides : IsTermOf made r term

-- OF TASKS

-- the greatest number of the kind of the grant that the task heard in its life, and that of the grant is not above it
pub record IsHeardReason (s : SliceletState) (c : ClusterCall) (r : ClusterReply) (kind : Kind) (number life : ℕ) : Type 0 where
  pub task : ℕ
  pub grant : Grant
  pub at : ℕ
  pub hears : c ≡ call.Task task (Hear grant at)
  pub told : r ≡ by_task (slicelet.Old number)
  pub of_kind : kind ≡ grant.lease.kind
  pub greatest : greatest_in s kind ≡ Some number
  pub in_life : life ≡ s.life
  pub not_above : grant.number ≤ number

-- the life of the call, or of the grant, is not above that of the task, or another one
abbrev pub IsLifeOf : SliceletCall → ClusterReply → ℕ → Type 0
IsLifeOf (Start new at) r life = (r ≡ by_task slicelet.OldLife) × (new ≤ life)
IsLifeOf (Resume new) r life = (r ≡ by_task slicelet.OldLife) × (new < life)
IsLifeOf (Hear grant at) r life = (r ≡ by_task slicelet.OtherLife) × (grant.life ≢ life)
IsLifeOf _ r life = ⊥

pub record IsLifeReason (s : SliceletState) (c : ClusterCall) (r : ClusterReply) (life : ℕ) : Type 0 where
  pub is : life ≡ s.life
  pub task : ℕ
  pub made : SliceletCall
  pub calls : c ≡ call.Task task made
  pub decides : IsLifeOf made r life

-- REASONS

-- a reason, by what the table and the task of the call stand at, and by the places of its calls
abbrev pub IsReasonBy : Standing → SliceletState → TaskPlaces → ClusterCall → ClusterReply → Reason → Type 0
IsReasonBy t s places c r (why.Request reason) = IsRequestReason t s places c r reason
IsReasonBy t s places c r (why.Broken b) = IsBrokenReason t s places c r b
IsReasonBy t s places c r (why.TableReading last) = IsTableReading t c r last
IsReasonBy t s places c r (why.TaskReading last) = IsTaskReading s c r last
IsReasonBy t s places c r (why.Held row) = IsHeldReason t c r row
IsReasonBy t s places c r (why.Term term) = IsTermReason t c r term
IsReasonBy t s places c r (why.Heard kind number life) = IsHeardReason s c r kind number life
IsReasonBy t s places c r (why.Life life) = IsLifeReason s c r life

-- whether a reply has a reason: whether there is more to say than the call and the reply do
abbrev pub is_answer : ClusterReply → Bool
is_answer (reply.Verdict verdict) = true
is_answer (reply.Holding handle) = true
is_answer _ = false

abbrev pub is_broken : ClusterReply → Bool
is_broken reply.Broken = true
is_broken _ = false

abbrev pub is_hear : SliceletCall → Bool
is_hear (Hear grant at) = true
is_hear _ = false

abbrev pub is_begin : SliceletCall → Bool
is_begin (Start life at) = true
is_begin (Resume life) = true
is_begin _ = false

abbrev pub is_take : TableCall → Bool
is_take (JobTake assigner at) = true
is_take _ = false

abbrev pub passes_term : TableCall → Bool
passes_term (JobRenew number at) = true
passes_term (Propose number slicing at) = true
passes_term (Commit number at) = true
passes_term _ = false

abbrev pub is_commit : TableCall → Bool
is_commit (Commit number at) = true
is_commit _ = false

abbrev pub is_task_explained : SliceletCall → SliceletError → Bool
is_task_explained c slicelet.ClockBack = true
is_task_explained c slicelet.OldLife = is_begin c
is_task_explained c slicelet.OtherLife = is_hear c
is_task_explained c (slicelet.Old heard) = is_hear c
is_task_explained c _ = false

abbrev pub is_table_explained : TableCall → TableError → Bool
is_table_explained c table.ClockBack = true
is_table_explained c (table.JobHeld until) = is_take c
is_table_explained c (table.NotHolder number) = passes_term c
is_table_explained c (table.Held task kind number) = is_commit c
is_table_explained c _ = false

abbrev pub is_task_refusal : SliceletCall → ClusterReply → Bool
is_task_refusal c (reply.Refused (error.Slicelet e)) = is_task_explained c e
is_task_refusal c _ = false

abbrev pub is_table_refusal : TableCall → ClusterReply → Bool
is_table_refusal c (reply.Refused (error.Table e)) = is_table_explained c e
is_table_refusal c _ = false

abbrev pub is_explained : ClusterCall → ClusterReply → Bool
is_explained (call.Serve task key at) r = is_answer r
is_explained (call.Hold task key at) r = is_answer r
is_explained (call.Check task handle at) r = is_broken r
is_explained (call.Task task c) r = is_task_refusal c r
is_explained (call.Table c) r = is_table_refusal c r
is_explained _ r = false

abbrev pub IsReasonOrNone : Standing → SliceletState → TaskPlaces → ClusterCall → ClusterReply → Option Reason → Type 0
IsReasonOrNone t s places c r (Some reason) = IsReasonBy t s places c r reason
IsReasonOrNone t s places c r None = is_explained c r ≡ false

-- the reason of the reply to a call, by the calls before it
abbrev pub IsReason : Continued → Past → List Placed → ClusterCall → ClusterReply → Option Reason → Type 0
IsReason job past placed c r reason = IsReasonOrNone (standing job.policy past) (history (task_of c) past) (places_of (task_of c) placed) c r reason
