-- What actors answer.
use Rattle.std.specs.Prelude.{ℕ, Bool, true, false, Option, Some, None, Result, Ok, Err, if◌then◌else◌}
use Rattle.machines.specs.Numbers.{is_within}
use Rattle.lease_rule.specs.declared.answer.Ground.{Ground}
use Rattle.lease_rule.specs.declared.answer.Verdict.{Verdict}
use Rattle.lease_rule.specs.declared.answer.Verdict.TheVariants.{Deny}
use Rattle.grants.specs.declared.values.Grant.{Grant}
use Rattle.lease_table.specs.Generations.{covers_by_owners}
use Rattle.key_handle.specs.declared.handle.KeyHandle.{KeyHandle}
use Rattle.slicelet.specs.Rules.{rule_after}
use Rattle.clerk.specs.declared.clerk.Found.{Found}
use Rattle.clerk.specs.declared.error.Unknown.{Unknown}
use Rattle.job_calls.specs.declared.error.ClusterError.{ClusterError}
use Rattle.job_calls.specs.declared.error.ClusterError.TheVariants as error
use Rattle.job_calls.specs.declared.reply.ClusterReply.{ClusterReply}
use Rattle.job_calls.specs.declared.reply.ClusterReply.TheVariants as reply
use Rattle.cluster.specs.Pasts.{Past, table_calls, task_calls}

-- an actor of the job answers, and there is no other
abbrev pub by_actor : ℕ → ℕ → ClusterReply → ClusterReply
by_actor number most answer = if is_within number most then answer else reply.Refused error.NoActor

-- a call that does not come to its actor is refused
abbrev pub unless : Option ClusterError → ClusterReply → ClusterReply
unless None answer = answer
unless (Some why) answer = reply.Refused why

-- an answer of a machine as a reply
abbrev pub from_machine : {M R E : Type 0} → (E → ClusterError) → (R → ClusterReply) → Result (M × R) E → ClusterReply
from_machine refused name (Ok p) = name p.1
from_machine refused name (Err why) = reply.Refused (refused why)

-- what a grant covers: what its task owns in the generations that it is for
abbrev pub covers : Past → ℕ → Grant → Bool
covers past key grant = covers_by_owners (table_calls past) key grant

-- the written rule on what a task was told
abbrev pub rule_in : Past → ℕ → ℕ → ℕ → Verdict
rule_in past task key at = rule_after (covers past key) (task_calls task past) at

-- `hold`: a handle, or why the key is not served
abbrev pub hold_reply : Result KeyHandle Ground → ClusterReply
hold_reply (Ok handle) = reply.Holding handle
hold_reply (Err why) = reply.Verdict (Deny why)

-- `check` of a handle that was given or not, and that the task can have given or not, where it is continuous or not
abbrev pub familiar : Bool → Bool → ClusterReply
familiar true kept = reply.Refused error.Stranger
familiar false true = reply.Continuous
familiar false false = reply.Broken

abbrev pub check_reply : Bool → Bool → Bool → ClusterReply
check_reply false strange kept = reply.Refused error.NotSent
check_reply true strange kept = familiar strange kept

-- `look`
abbrev pub look_reply : Result Found Unknown → ClusterReply
look_reply (Ok found) = reply.Found found
look_reply (Err unknown) = reply.Refused error.Unknown
