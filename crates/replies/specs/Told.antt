-- What the machines answer, as it is told of a step.
use Rattle.std.specs.Prelude.{ℕ, ◌+◌, Bool, true, false}
use Rattle.grants.specs.declared.values.JobTerm.{JobTerm}
use Rattle.grants.specs.declared.table_call.TableReply.{TableReply}
use Rattle.grants.specs.declared.table_call.TableReply.TheVariants as table
use Rattle.grants.specs.declared.slicelet_call.SliceletReply.{SliceletReply}
use Rattle.grants.specs.declared.slicelet_call.SliceletReply.TheVariants as slicelet
use Rattle.clerk.specs.declared.call.ClerkReply.{ClerkReply}
use Rattle.clerk.specs.declared.call.ClerkReply.TheVariants as clerk
use Rattle.job_calls.specs.declared.error.ClusterError.{ClusterError}
use Rattle.job_calls.specs.declared.error.ClusterError.TheVariants as error
use Rattle.job_calls.specs.declared.reply.ClusterReply.{ClusterReply}
use Rattle.job_calls.specs.declared.reply.ClusterReply.TheVariants as machine
use Rattle.replies.specs.declared.reply.Reply.{Reply}
use Rattle.replies.specs.declared.reply.Reply.TheVariants as reply
use Rattle.replies.specs.declared.reply.Refusal.{Refusal}
use Rattle.replies.specs.declared.reply.Refusal.TheVariants as refusal
use Rattle.replies.specs.declared.told.Named.{Named}
use Rattle.replies.specs.declared.told.NextNumbers.{NextNumbers}

-- a job term is told as renewed or as taken
abbrev pub term_reply : Bool → JobTerm → Reply
term_reply true term = reply.Renewed term
term_reply false term = reply.Term term

abbrev pub table_reply : Named → TableReply → Reply
table_reply n (table.Term term) = term_reply n.renews term
table_reply n table.Proposed = reply.Proposed n.number
table_reply n (table.Committed generation) = reply.Committed generation
table_reply n (table.Granted grant) = reply.Granted grant
table_reply n (table.Freed rows) = reply.Freed rows
table_reply n (table.Lost rows) = reply.Lost rows

-- a note is told with its number; no step begins a new process, so that the last reply is never told
abbrev pub task_reply : Named → ℕ → SliceletReply → Reply
task_reply n number slicelet.Started = reply.Started n.life
task_reply n number slicelet.Heard = reply.Heard n.number
task_reply n number (slicelet.Released note) = reply.Released number note
task_reply n number (slicelet.Resumed ended) = reply.Started n.life

abbrev pub clerk_reply : Named → ClerkReply → Reply
clerk_reply n clerk.Learnt = reply.Learnt n.number
clerk_reply n clerk.Forgotten = reply.Forgotten

abbrev pub refusal_by : ClusterError → Refusal
refusal_by error.NoActor = refusal.NoActor
refusal_by error.NotSent = refusal.NotSent
refusal_by (error.Table why) = refusal.Table why
refusal_by (error.Slicelet why) = refusal.Slicelet why
refusal_by error.Stranger = refusal.Stranger
refusal_by (error.Clerk why) = refusal.Clerk why
refusal_by error.Unknown = refusal.Unknown

-- the numbers that the next note and the next handle get, after so many of each
abbrev pub numbers_after : ℕ → ℕ → NextNumbers
numbers_after notes handles = record { note = notes + 1; handle = handles + 1 }

-- a reply of the machines to a call that names this, as it is told
abbrev pub told_as : Named → NextNumbers → ClusterReply → Reply
told_as n next (machine.Table r) = table_reply n r
told_as n next (machine.Task r) = task_reply n next.note r
told_as n next (machine.Clerk r) = clerk_reply n r
told_as n next (machine.Phase phase) = reply.Phase phase
told_as n next (machine.Rows rows) = reply.Rows rows
told_as n next (machine.Verdict verdict) = reply.Verdict verdict
told_as n next (machine.Holding handle) = reply.Holding next.handle handle
told_as n next machine.Continuous = reply.Continuous
told_as n next machine.Broken = reply.Broken
told_as n next (machine.Found found) = reply.Found found
told_as n next (machine.Refused why) = reply.Refused (refusal_by why)
