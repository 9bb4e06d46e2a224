-- What queries answer.
use Rattle.std.specs.Prelude.{Bool, true, false, Result, Ok, Err}
use Rattle.grants.specs.declared.slicelet_error.Stranger.{Stranger}
use Rattle.job_calls.specs.declared.error.ClusterError.TheVariants as error
use Rattle.job_calls.specs.declared.reply.ClusterReply.{ClusterReply}
use Rattle.job_calls.specs.declared.reply.ClusterReply.TheVariants as reply

-- whether the checked handle is continuous, or that it is none that the task can have given
abbrev pub check_told : Result Bool Stranger → ClusterReply
check_told (Ok true) = reply.Continuous
check_told (Ok false) = reply.Broken
check_told (Err stranger) = reply.Refused error.Stranger
