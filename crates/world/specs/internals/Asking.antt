-- A call that a step makes, and what the step is told of it.
use Rattle.std.specs.Prelude.{◌≡◌, Result, Ok, Err}
use Rattle.std.specs.declared.alloc.AllocError.{AllocError}
use Rattle.assigner.specs.Terms.{Keeping}
use Rattle.job_calls.specs.declared.call.ClusterCall.{ClusterCall}
use Rattle.job_calls.specs.declared.reply.ClusterReply.{ClusterReply}
use Rattle.cluster.specs.declared.cluster.Cluster.{Cluster}
use Rattle.cluster.specs.Pasts.{Past as ClusterPast}
use Rattle.cluster.specs.Clusters.{IsPlayed}
use Rattle.world.specs.Jobs.{Job}
use Rattle.world.specs.declared.step.Step.{Step}
use Rattle.replies.specs.declared.reply.Reply.{Reply}
use Rattle.replies.specs.declared.reply.Reply.TheVariants as reply
use Rattle.replies.specs.declared.told.NextNumbers.{NextNumbers}
use Rattle.world.specs.Front.{term_told}
use Rattle.world.specs.Replies.{named, next_numbers}
use Rattle.replies.specs.Told.{told_as}

-- a reply of the machines, as it is told, or that they are out of memory
abbrev pub told_of : Step → NextNumbers → Result ClusterReply AllocError → Reply
told_of s next (Ok answer) = told_as (named s) next answer
told_of s next (Err error) = reply.NoMemory

-- a call of the machines was played, and its reply told
abbrev pub IsAsked : Job → ClusterPast → Step → ClusterCall → Reply → Cluster → Type 0
IsAsked job calls s made answer cluster = (result : Result ClusterReply AllocError) × IsPlayed job calls made result cluster × (answer ≡ told_of s (next_numbers calls) result)

-- an assigner with the term that it is told, if it is told one
abbrev pub with_told : Reply → Keeping → Keeping
with_told answer a = record a { term = term_told a.id answer a.term }
