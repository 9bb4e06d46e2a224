-- Samples that the clocks of tasks take.
use Rattle.std.specs.Prelude.{◌≡◌, if◌then◌else◌}
use Rattle.machines.specs.Numbers.{is_within}
use Rattle.job_calls.specs.Jobs.{Job}
use Rattle.cluster.specs.Pasts.{Past}
use Rattle.replies.specs.declared.reply.Reply.TheVariants.{Refused}
use Rattle.replies.specs.declared.reply.Refusal.TheVariants.{NoActor}
use Rattle.log_line.specs.declared.line.TaskSample.{TaskSample}
use Rattle.log_line.specs.declared.told.CallerReply.{CallerReply}
use Rattle.log_line.specs.declared.told.CallerReply.TheVariants.{Scripted, Sampled}

-- a sample is taken if the job has the task
abbrev pub sampled_told : Job → TaskSample → CallerReply
sampled_told job taken = if is_within taken.task job.tasks then Sampled else Scripted (Refused NoActor)

-- a sample was taken, or refused, and the machines made no call
pub record IsSampled (job : Job) (before : Past) (taken : TaskSample) (told : CallerReply) (after : Past) : Type 0 where
  pub tells : told ≡ sampled_told job taken
  pub made : after ≡ before
