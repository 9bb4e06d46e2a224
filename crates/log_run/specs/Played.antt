-- The calls that the lines of a log stand for.
use Rattle.std.specs.Prelude.{◌≡◌, List, [], ◌∷◌}
use Rattle.job_calls.specs.Jobs.{Job}
use Rattle.cluster.specs.continued.Jobs.{Continued, job_in}
use Rattle.job_calls.specs.declared.reply.ClusterReply.{ClusterReply}
use Rattle.cluster.specs.Pasts.{event, Past}
use Rattle.log_line.specs.declared.told.CallerReply.{CallerReply}
use Rattle.log_line.specs.declared.entry.LogEntry.{LogEntry}
use Rattle.log_line.specs.declared.line.LoggedCall.{LoggedCall}
use Rattle.log_line.specs.declared.line.LoggedCall.TheVariants.{Whole, HearBare, LearnBare, Restore, Sample}
use Rattle.log_run.specs.Calls.{call_after, told_after}
use Rattle.log_run.specs.Restores.{IsRestored}
use Rattle.log_run.specs.Samples.{IsSampled}

-- after these calls a line's call is answered, and its caller is told so
pub record IsCalled (before : Past) (c : LoggedCall) (told : CallerReply) (after : Past) : Type 0 where
  pub answer : ClusterReply
  pub tells : told ≡ told_after before c answer
  pub made : after ≡ event (call_after before c) answer ∷ before

-- what the caller of a line's call is told after these calls, and the calls once those are made that the line stands for: its call,
-- those of a restored table, or none for a sample
abbrev pub StandsFor : Job → Past → LoggedCall → CallerReply → Past → Type 0
StandsFor job before (Whole c) told after = IsCalled before (Whole c) told after
StandsFor job before (HearBare task grant at) told after = IsCalled before (HearBare task grant at) told after
StandsFor job before (LearnBare clerk generation) told after = IsCalled before (LearnBare clerk generation) told after
StandsFor job before (Restore numbers) told after = IsRestored job before numbers told after
StandsFor job before (Sample taken) told after = IsSampled job before taken told after

-- the calls of a past are those before, and then those that these entries stand for, both newest first, whatever their callers were told
abbrev pub AreCallsOf : Continued → List LogEntry → Past → Type 0
AreCallsOf job [] past = past ≡ job.earlier
AreCallsOf job (entry ∷ entries) past =
    (before : Past) × (told : CallerReply) × StandsFor (job_in job) before entry.line.call told past × AreCallsOf job entries before
