-- What each call is answered, by the calls before it.
use Rattle.std.specs.Prelude.{Bool}
use Rattle.job_calls.specs.Jobs.{Job}
use Rattle.job_calls.specs.declared.call.ClusterCall.{ClusterCall}
use Rattle.job_calls.specs.declared.reply.ClusterReply.{ClusterReply}
use Rattle.cluster.specs.Pasts.{Past}
use Rattle.cluster.specs.continued.Jobs.{from_start}
use Rattle.cluster.specs.continued.Replies as continued
pub use Rattle.cluster.specs.Answers.{by_actor, unless, from_machine, covers, rule_in, hold_reply, familiar, check_reply, look_reply}

-- what a call is answered; the reply to a `check`, and no other, rests on whether its handle is continuous
abbrev pub reply_to : Job → Past → ClusterCall → Bool → ClusterReply
reply_to job past c kept = continued.reply_to (from_start job) past c kept
