-- Jobs whose machines go on from earlier calls, and may have forgotten some of what was made in these.
use Rattle.std.specs.Prelude.{ℕ, Bool, false, []}
use Rattle.grants.specs.Policies.{Terms}
use Rattle.grants.specs.declared.values.ReleaseNote.{ReleaseNote}
use Rattle.key_handle.specs.declared.handle.KeyHandle.{KeyHandle}
use Rattle.job_calls.specs.Jobs.{Job}
use Rattle.cluster.specs.Pasts.{Past}

-- what the machines no longer know after a past: the grant of a number, a note, a handle, the assignment of a generation
pub record Forgotten : Type 0 where
  pub grant : Past → ℕ → Bool
  pub note : Past → ReleaseNote → Bool
  pub handle : Past → KeyHandle → Bool
  pub generation : Past → ℕ → Bool

abbrev pub nothing : Forgotten
nothing = record { grant = λ past number. false; note = λ past note. false; handle = λ past handle. false; generation = λ past generation. false }

-- a job with the calls that came before, newest first
pub record Continued : Type 0 where
  pub policy : Terms
  pub assigners : ℕ
  pub tasks : ℕ
  pub clerks : ℕ
  pub earlier : Past
  pub forgotten : Forgotten

-- a job that begins, and forgets nothing
abbrev pub from_start : Job → Continued
from_start job = record { policy = job.policy; assigners = job.assigners; tasks = job.tasks; clerks = job.clerks; earlier = []; forgotten = nothing }

-- the job itself
abbrev pub job_in : Continued → Job
job_in job = record { policy = job.policy; assigners = job.assigners; tasks = job.tasks; clerks = job.clerks }

-- how many grants, notes, handles and proposals were made before those that are kept
pub record Counts : Type 0 where
  pub grants : ℕ
  pub notes : ℕ
  pub handles : ℕ
  pub proposals : ℕ

abbrev pub no_counts : Counts
no_counts = record { grants = 0; notes = 0; handles = 0; proposals = 0 }
