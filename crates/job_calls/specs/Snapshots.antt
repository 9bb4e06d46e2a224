-- Snapshots of a job's machines.
use Rattle.std.specs.Prelude.{◌≡◌, ◌^◌, ◌||◌, not, nat_lt, nat_eq, List, [], ◌∷◌, length, Option, option_map}
use Rattle.machines.specs.Refusals.{when, first_of}
use Rattle.grants.specs.declared.snapshot.TableSnapshot.{TableSnapshot}
use Rattle.grants.specs.Snapshots.{snapshot_checks, newest_in}
use Rattle.job_calls.specs.Jobs.{Job}
use Rattle.job_calls.specs.declared.snapshot.ClusterSnapshot.{ClusterSnapshot}
use Rattle.job_calls.specs.declared.snapshot.ResumeFault.{ResumeFault}
use Rattle.job_calls.specs.declared.snapshot.ResumeFault.TheVariants as fault

-- why no machines of a job stand at a snapshot, but for the calls of its tasks, which are played
abbrev pub resume_checks : Job → ClusterSnapshot → List (Option ResumeFault)
resume_checks job s =
    option_map fault.Table (first_of (snapshot_checks job.policy s.table)) ∷
    when (not (nat_eq (length s.tasks.items) job.tasks)) fault.Tasks ∷
    when (not (nat_eq (length s.clerks.items) job.clerks)) fault.Clerks ∷
    when (nat_lt s.table.kept.granted (length s.grants.items)) fault.Grants ∷
    when (nat_lt (newest_in s.table.kept) (length s.assignments.items)) fault.Assignments ∷
    when (nat_lt (2 ^ 62) s.notes_made || nat_lt (2 ^ 62) s.handles_made) fault.Counts ∷ []

-- the same values and rows of a table
pub record IsSameTable (a b : TableSnapshot) : Type 0 where
  pub kept : a.kept ≡ b.kept
  pub grace : a.grace ≡ b.grace
  pub rows : a.rows.items ≡ b.rows.items

-- the same values in the same lists
pub record AreSame (a b : ClusterSnapshot) : Type 0 where
  pub table : IsSameTable a.table b.table
  pub tasks : a.tasks.items ≡ b.tasks.items
  pub clerks : a.clerks.items ≡ b.clerks.items
  pub grants : a.grants.items ≡ b.grants.items
  pub assignments : a.assignments.items ≡ b.assignments.items
  pub notes : a.notes.items ≡ b.notes.items
  pub handles : a.handles.items ≡ b.handles.items
  pub notes_made : a.notes_made ≡ b.notes_made
  pub handles_made : a.handles_made ≡ b.handles_made
  pub table_reading : a.table_reading ≡ b.table_reading
