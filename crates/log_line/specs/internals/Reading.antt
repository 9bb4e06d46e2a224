-- Why one of some lines is not read.
use Rattle.std.specs.Prelude.{◌≡◌, ◌⊎◌, ℕ, ⊤, Bool, true, false, List, [], ◌∷◌}
use Rattle.job_calls.specs.Jobs.{Job}
use Rattle.program_io.specs.declared.fault.Fault.TheVariants as fault
use Rattle.faults.specs.JobLines.{IsNoJob, SaysJob}
use Rattle.log_line.specs.declared.log.LogError.{LogError}
use Rattle.log_line.specs.declared.log.LogError.TheVariants as unread
use Rattle.log_line.specs.Files.{PlacedLine, AreOfJob, AreOtherJobs, IsBadJob, HasJobMember, HasNoJobMember}

-- a line says no job, or memory ran out
abbrev pub IsNoJobFor : PlacedLine → LogError → Type 0
IsNoJobFor line (unread.NoJob place faults) = (line.place ≡ place) × IsNoJob line.bytes (fault.Input faults)
IsNoJobFor line unread.Empty = ⊥
IsNoJobFor line (unread.LongLine place) = ⊥
IsNoJobFor line (unread.OtherJob first second) = ⊥
IsNoJobFor line (unread.BadLine place why mend) = ⊥
IsNoJobFor line unread.Memory = ⊤

-- a line is an object whose one member is `job`, or is none
abbrev pub IsJobMember : List ℕ → Bool → Type 0
IsJobMember bytes true = HasJobMember bytes
IsJobMember bytes false = HasNoJobMember bytes

-- some job lines say this job; where there are none, the first line does
abbrev pub IsJobOf : List PlacedLine → PlacedLine → Job → Type 0
IsJobOf [] first job = SaysJob first.bytes job
IsJobOf (head ∷ jobs) first job = AreOfJob (head ∷ jobs) job

-- some job lines say no job or different ones, or there are none and the first line says none, or memory ran out
abbrev pub IsNoJobOf : List PlacedLine → PlacedLine → LogError → Type 0
IsNoJobOf jobs first (unread.NoJob place faults) =
    ((jobs ≡ []) × (first.place ≡ place) × IsNoJob first.bytes (fault.Input faults)) ⊎ IsBadJob jobs place (fault.Input faults)
IsNoJobOf jobs first (unread.OtherJob one second) = AreOtherJobs jobs one second
IsNoJobOf jobs first unread.Empty = ⊥
IsNoJobOf jobs first (unread.LongLine place) = ⊥
IsNoJobOf jobs first (unread.BadLine place why mend) = ⊥
IsNoJobOf jobs first unread.Memory = ⊤
