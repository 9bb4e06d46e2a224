-- The reasons of refusals.
use Rattle.std.proofs.Common.{◌≡◌, ◌∙◌, ℕ, false, refl, sym, ap, subst}
use Rattle.std.specs.Prelude.{Option, Some, None, Result, Ok, Err, IfOk}
use Rattle.std.specs.declared.alloc.AllocError.{AllocError}
use Rattle.lease_rule.specs.declared.lease.Kind.{Kind}
use Rattle.grants.specs.declared.slicelet_call.SliceletCall.{SliceletCall}
use Rattle.grants.specs.declared.slicelet_call.SliceletCall.TheVariants.{Start, Hear, Release, Resume}
use Rattle.grants.specs.declared.slicelet_error.SliceletError.TheVariants as slicelet
use Rattle.grants.specs.declared.table_call.TableCall.{TableCall}
use Rattle.grants.specs.declared.table_call.TableCall.TheVariants.{JobTake, JobRenew, Propose, Commit, Grant, Free, Restart}
use Rattle.grants.specs.declared.table_error.TableError.TheVariants as table
use Rattle.grants.specs.declared.values.Row.{Row}
use Rattle.lease_table.specs.Tables.{Standing}
use Rattle.slicelet.specs.States.{SliceletState}
use Rattle.job_calls.specs.declared.call.ClusterCall.{ClusterCall}
use Rattle.job_calls.specs.declared.call.ClusterCall.TheVariants as call
use Rattle.job_calls.specs.declared.reply.ClusterReply.{ClusterReply}
use Rattle.reasons.specs.declared.places.TaskPlaces.{TaskPlaces}
use Rattle.reasons.specs.declared.question.Question.{Question}
use Rattle.reasons.specs.declared.reason.Reason.{Reason}
use Rattle.reasons.specs.declared.reason.Reason.TheVariants as why
use Rattle.reasons.specs.Questions.{asked_of_table, asked_of_task, question_of}
use Rattle.reasons.specs.Reasons.{by_table, by_task, is_explained, IsReasonOrNone}
use Rattle.reasons.specs.internals.Answers.{IsTableRefusal, IsTaskRefusal}
use Rattle.reasons.specs.internals.Refusing.{table_read_for, task_read_for, held_for}
use Rattle.reasons.proofs.TableRefusals.{table_back, held_reason}
use Rattle.reasons.proofs.TaskRefusals.{task_back}

read_by_table : (t : Standing) (c : TableCall) → table_read_for t (asked_of_table c) ≡ Some (why.TableReading t.last)
read_by_table t (JobTake assigner at) = refl
read_by_table t (JobRenew number at) = refl
read_by_table t (Propose number slicing at) = refl
read_by_table t (Commit number at) = refl
read_by_table t (Grant task life at) = refl
read_by_table t (Free note at) = refl
read_by_table t Restart = refl

not_by_table : (t : Standing) (task : ℕ) (c : SliceletCall) → table_read_for t (asked_of_task task c) ≡ None
not_by_table t task (Start life at) = refl
not_by_table t task (Hear grant at) = refl
not_by_table t task (Release kind at) = refl
not_by_table t task (Resume life) = refl

read_by_task : (s : SliceletState) (task : ℕ) (c : SliceletCall) → task_read_for s (asked_of_task task c) ≡ Some (why.TaskReading s.last)
read_by_task s task (Start life at) = refl
read_by_task s task (Hear grant at) = refl
read_by_task s task (Release kind at) = refl
read_by_task s task (Resume life) = refl

not_by_task : (s : SliceletState) (c : TableCall) → task_read_for s (asked_of_table c) ≡ None
not_by_task s (JobTake assigner at) = refl
not_by_task s (JobRenew number at) = refl
not_by_task s (Propose number slicing at) = refl
not_by_task s (Commit number at) = refl
not_by_task s (Grant task life at) = refl
not_by_task s (Free note at) = refl
not_by_task s Restart = refl

not_held : (t : Standing) (task : ℕ) (c : SliceletCall) → held_for t (asked_of_task task c) ≡ None
not_held t task (Start life at) = refl
not_held t task (Hear grant at) = refl
not_held t task (Release kind at) = refl
not_held t task (Resume life) = refl

module _ (t : Standing) (s : SliceletState) (places : TaskPlaces) where
  none_for : (c : ClusterCall) (r : ClusterReply) (o : Option Reason) → o ≡ None → is_explained c r ≡ false → IsReasonOrNone t s places c r o
  none_for c r None e none = none
  none_for c r (Some reason) e none = absurd (cc)

  is_for : (c : ClusterCall) (r : ClusterReply) (o other : Option Reason) → o ≡ other → IsReasonOrNone t s places c r other → IsReasonOrNone t s places c r o
  is_for c r o other e is = subst (IsReasonOrNone t s places c r) (sym e) is

  pub table_read : (c : ClusterCall) (q : Question) (o : Option Reason) → q ≡ question_of c → IsTableRefusal t c table.ClockBack → o ≡ table_read_for t q
      → IsReasonOrNone t s places c (by_table table.ClockBack) o
  table_read (call.Table c) q o asks step is =
      is_for (call.Table c) (by_table table.ClockBack) o (Some (why.TableReading t.last)) (is ∙ (ap (table_read_for t) asks ∙ read_by_table t c)) (table_back t c step)
  table_read (call.Task task c) q o asks step is =
      none_for (call.Task task c) (by_table table.ClockBack) o (is ∙ (ap (table_read_for t) asks ∙ not_by_table t task c)) refl
  table_read c q o asks step is = none_for c (by_table table.ClockBack) o (is ∙ ap (table_read_for t) asks) refl

  pub task_read : (c : ClusterCall) (q : Question) (o : Option Reason) → q ≡ question_of c → IsTaskRefusal s c slicelet.ClockBack → o ≡ task_read_for s q
      → IsReasonOrNone t s places c (by_task slicelet.ClockBack) o
  task_read (call.Task task c) q o asks step is =
      is_for (call.Task task c) (by_task slicelet.ClockBack) o (Some (why.TaskReading s.last)) (is ∙ (ap (task_read_for s) asks ∙ read_by_task s task c)) (task_back s task c step)
  task_read (call.Table c) q o asks step is =
      none_for (call.Table c) (by_task slicelet.ClockBack) o (is ∙ (ap (task_read_for s) asks ∙ not_by_task s c)) refl
  task_read c q o asks step is = none_for c (by_task slicelet.ClockBack) o (is ∙ ap (task_read_for s) asks) refl

  module _ (task number : ℕ) (kind : Kind) where
    abbrev held : ClusterReply
    held = by_table (table.Held task kind number)

    held_by : (c : TableCall) (o : Option Reason) → o ≡ held_for t (asked_of_table c) → IsTableRefusal t (call.Table c) (table.Held task kind number) → IsReasonOrNone t s places (call.Table c) held o
    held_by (Commit by at) o is step =
        let row = held_reason t by at task number kind step in
        is_for (call.Table (Commit by at)) held o (Some (why.Held row.0)) (is ∙ ap (λ (r : Option Row). option_held r) row.1) row.2
      where
        option_held : Option Row → Option Reason
        option_held None = None
        option_held (Some row) = Some (why.Held row)
    held_by (JobTake assigner at) o is step = none_for (call.Table (JobTake assigner at)) held o is refl
    held_by (JobRenew by at) o is step = none_for (call.Table (JobRenew by at)) held o is refl
    held_by (Propose by slicing at) o is step = none_for (call.Table (Propose by slicing at)) held o is refl
    held_by (Grant of life at) o is step = none_for (call.Table (Grant of life at)) held o is refl
    held_by (Free note at) o is step = none_for (call.Table (Free note at)) held o is refl
    held_by Restart o is step = none_for (call.Table Restart) held o is refl

    held_of : (c : ClusterCall) (o : Option Reason) → o ≡ held_for t (question_of c) → IsTableRefusal t c (table.Held task kind number) → IsReasonOrNone t s places c held o
    held_of (call.Table c) o is step = held_by c o is step
    held_of (call.Task of c) o is step = none_for (call.Task of c) held o (is ∙ not_held t of c) refl
    held_of c o is step = none_for c held o is refl

    pub held_up : (c : ClusterCall) (q : Question) (result : Result (Option Reason) AllocError) → q ≡ question_of c → IsTableRefusal t c (table.Held task kind number)
        → IfOk result (λ o. o ≡ held_for t q) → IfOk result (IsReasonOrNone t s places c held)
    held_up c q (Ok o) asks step is = held_of c o (is ∙ ap (held_for t) asks) step
    held_up c q (Err e) asks step is = tt
