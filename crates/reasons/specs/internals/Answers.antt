-- What the table and a task answer, by what they stand at.
use Rattle.std.specs.Prelude.{◌≡◌, ℕ, ◌<◌, Bool, true, false, Option, Some, None, Ok, Err, ⊤}
use Rattle.slice_ranges.specs.declared.key.TheConstants.{KEYS}
use Rattle.grants.specs.declared.slicelet_error.SliceletError.{SliceletError}
use Rattle.grants.specs.declared.table_error.TableError.{TableError}
use Rattle.lease_table.specs.Calls.{table_step}
use Rattle.lease_table.specs.Tables.{Standing}
use Rattle.key_handle.specs.declared.handle.KeyHandle.{KeyHandle}
use Rattle.slicelet.specs.Continuity.{handle_on, held_by, checked_in}
use Rattle.slicelet.specs.Rules.{covers_key}
use Rattle.slicelet.specs.States.{SliceletState, rule_in_state}
use Rattle.slicelet.specs.Steps.{slicelet_step}
use Rattle.job_calls.specs.declared.call.ClusterCall.{ClusterCall}
use Rattle.job_calls.specs.declared.call.ClusterCall.TheVariants as call
use Rattle.job_calls.specs.declared.error.ClusterError.TheVariants as error
use Rattle.job_calls.specs.declared.reply.ClusterReply.{ClusterReply}
use Rattle.job_calls.specs.declared.reply.ClusterReply.TheVariants as reply
use Rattle.cluster.specs.Answers.{hold_reply}
use Rattle.reasons.specs.declared.question.Question.{Question}
use Rattle.reasons.specs.declared.question.Question.TheVariants as question

-- the machine of a call refuses it
abbrev pub IsTableRefusal : Standing → ClusterCall → TableError → Type 0
IsTableRefusal t (call.Table c) e = table_step t c ≡ Err e
IsTableRefusal t _ e = ⊤

abbrev pub IsTaskRefusal : SliceletState → ClusterCall → SliceletError → Type 0
IsTaskRefusal s (call.Task task c) e = slicelet_step s c ≡ Err e
IsTaskRefusal s _ e = ⊤

-- a call is refused, if the reply says so
abbrev pub IsRefused : SliceletState → ClusterCall → ClusterReply → Type 0
IsRefused s c (reply.Refused (error.Slicelet e)) = IsTaskRefusal s c e
IsRefused s c _ = ⊤

-- a handle is broken, if the reply says so
abbrev pub IsUnkept : SliceletState → KeyHandle → ℕ → ClusterReply → Type 0
IsUnkept s handle at reply.Broken = checked_in s handle at ≡ Ok false
IsUnkept s handle at _ = ⊤

-- the reply to a call of a task of the job
abbrev pub IsAnswer : SliceletState → ClusterCall → ClusterReply → Type 0
IsAnswer s (call.Serve task key at) r = r ≡ reply.Verdict (rule_in_state (covers_key key) s at)
IsAnswer s (call.Hold task key at) r = r ≡ hold_reply (held_by (rule_in_state (covers_key key) s at) (handle_on key s))
IsAnswer s (call.Check task handle at) r = IsUnkept s handle at r
IsAnswer s c r = IsRefused s c r

-- why the table refuses, if it does
abbrev pub table_error : ClusterReply → Option TableError
table_error (reply.Refused (error.Table e)) = Some e
table_error _ = None

-- why a task refuses, if it does
abbrev pub task_error : ClusterReply → Option SliceletError
task_error (reply.Refused (error.Slicelet e)) = Some e
task_error _ = None

-- a task may have given the reply, and took no call with it
abbrev pub is_of_task : ClusterReply → Bool
is_of_task (reply.Verdict verdict) = true
is_of_task (reply.Holding handle) = true
is_of_task reply.Broken = true
is_of_task (reply.Refused why) = true
is_of_task _ = false

-- the keys that are asked for are slice keys
abbrev pub IsKeyed : Question → Type 0
IsKeyed (question.Key task key at) = key < KEYS
IsKeyed (question.Check task handle at) = handle.key < KEYS
IsKeyed _ = ⊤
