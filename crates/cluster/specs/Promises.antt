-- What the callers of tasks are told, and what of notes and readings holds in every run.
use Rattle.std.specs.Prelude.{◌≡◌, ℕ, IsTrue, Contains, ◌↔◌}
use Rattle.machines.specs.Numbers.{is_within}
use Rattle.grants.specs.declared.values.ReleaseNote.{ReleaseNote}
use Rattle.key_handle.specs.declared.handle.KeyHandle.{KeyHandle}
use Rattle.slicelet.specs.Accepted.{notes_sent}
use Rattle.slicelet.specs.Continuity.{IsContinuous, handle_on, held_by}
use Rattle.job_calls.specs.Jobs.{Job}
use Rattle.job_calls.specs.declared.reply.ClusterReply.{ClusterReply}
use Rattle.job_calls.specs.declared.reply.ClusterReply.TheVariants as reply
use Rattle.job_calls.specs.declared.timing.Reading.TheVariants.{TableClock}
use Rattle.cluster.specs.Pasts.{Past, readings, task_calls, history}
use Rattle.cluster.specs.Replies.{covers, rule_in, hold_reply}

-- a `serve` is told what the written rule says of its key, on the calls that its task accepted
abbrev pub IsServedByRule : Job → Past → ℕ → ℕ → ℕ → ClusterReply → Type 0
IsServedByRule job past task key at told = IsTrue (is_within task job.tasks) → told ≡ reply.Verdict (rule_in past task key at)

-- a `hold` is told a handle where the written rule allows its key, and else why it does not
abbrev pub IsHeldByRule : Job → Past → ℕ → ℕ → ℕ → ClusterReply → Type 0
IsHeldByRule job past task key at told =
    IsTrue (is_within task job.tasks) → told ≡ hold_reply (held_by (rule_in past task key at) (handle_on key (history task past)))

-- a `check` finds its handle continuous exactly when no call since took its key away, and else broken
pub record IsCheckedByHistory (past : Past) (task : ℕ) (handle : KeyHandle) (at : ℕ) (told : ClusterReply) : Type 0 where
  pub continuous : (told ≡ reply.Continuous) ↔ IsContinuous (covers past handle.key) (task_calls task past) handle at
  pub broken : (told ≡ reply.Broken) ↔ (IsContinuous (covers past handle.key) (task_calls task past) handle at → ⊥)

-- a note was sent by its task
abbrev pub IsNoteOf : Past → ReleaseNote → Type 0
IsNoteOf past note = Contains (notes_sent note.task (task_calls note.task past)) note

-- a call of the table was at this reading
abbrev pub WasRead : Past → ℕ → Type 0
WasRead past at = Contains (readings past) (TableClock at)
