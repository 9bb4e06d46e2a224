-- The values for refusals, by what was asked.
use Rattle.std.specs.Prelude.{ℕ, Option, Some, None, option_map}
use Rattle.grants.specs.Assignments.{generation_of}
use Rattle.grants.specs.Rows.{first_up_to}
use Rattle.lease_table.specs.Tables.{Standing}
use Rattle.slicelet.specs.States.{SliceletState}
use Rattle.reasons.specs.declared.question.Question.{Question}
use Rattle.reasons.specs.declared.question.Question.TheVariants as question
use Rattle.reasons.specs.declared.reason.Reason.{Reason}
use Rattle.reasons.specs.declared.reason.Reason.TheVariants as why

abbrev pub table_read_for : Standing → Question → Option Reason
table_read_for t question.Take = Some (why.TableReading t.last)
table_read_for t question.Pass = Some (why.TableReading t.last)
table_read_for t (question.Commit at) = Some (why.TableReading t.last)
table_read_for t question.Table = Some (why.TableReading t.last)
table_read_for t _ = None

abbrev pub task_read_for : SliceletState → Question → Option Reason
task_read_for s (question.Hear task kind) = Some (why.TaskReading s.last)
task_read_for s (question.Begin task) = Some (why.TaskReading s.last)
task_read_for s (question.Release task) = Some (why.TaskReading s.last)
task_read_for s _ = None

abbrev pub taken_for : Standing → Question → Option Reason
taken_for t question.Take = Some (why.Term t.term)
taken_for t _ = None

abbrev pub passed_for : Standing → Question → Option Reason
passed_for t question.Pass = Some (why.Term t.term)
passed_for t (question.Commit at) = Some (why.Term t.term)
passed_for t _ = None

abbrev pub held_for : Standing → Question → Option Reason
held_for t (question.Commit at) = option_map (λ row. why.Held row) (first_up_to (generation_of t.committed) at t.rows)
held_for t _ = None

abbrev pub begun_for : SliceletState → Question → Option Reason
begun_for s (question.Begin task) = Some (why.Life s.life)
begun_for s _ = None

abbrev pub heard_for : SliceletState → Question → Option Reason
heard_for s (question.Hear task kind) = Some (why.Life s.life)
heard_for s _ = None

abbrev pub old_for : SliceletState → Question → ℕ → Option Reason
old_for s (question.Hear task kind) number = Some (why.Heard kind number s.life)
old_for s _ number = None
