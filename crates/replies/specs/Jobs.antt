-- What a job line says.
use Rattle.std.specs.Prelude.{ℕ, ◌&&◌, [], ◌∷◌, codes, Result, Ok}
use Rattle.serde_json.specs.Data.{Data}
use Rattle.grants.specs.Policies.{Terms, is_policy, terms}
use Rattle.machines.specs.Numbers.{is_within}
use Rattle.job_calls.specs.Jobs.{Job, job_of as job_with}
use Rattle.program_io.specs.declared.fault.WrongForm.{WrongForm}
use Rattle.program_io.specs.Reading.{◌>>=◌, ◌>>◌, or_else, check}
use Rattle.program_io.specs.Members.{wrong, exactly, member_at, number_of, number_at, two_numbers_of}

-- the one member `job` of the line
unfoldable pub job_member : Data → Result Data WrongForm
job_member line = do
  exactly (codes "job" ∷ []) line
  member_at (codes "job") line

-- a number, for both ends of a range
abbrev pub both_ends_of : Data → Result (ℕ × ℕ) WrongForm
both_ends_of d = do
  number ← number_of d
  Ok (number, number)

-- how many tasks own a slice at the least and at the most: `[low, high]`, or a number r for `[r, r]`
abbrev pub redundancy_of : Data → Result (ℕ × ℕ) WrongForm
redundancy_of d = or_else (both_ends_of d) (two_numbers_of d)

-- what the table and its leases are held to
unfoldable pub policy_of : Data → Result Terms WrongForm
policy_of d = do
  redundancy ← member_at (codes "redundancy") d >>= redundancy_of
  skew ← number_at (codes "skew") d
  guard ← number_at (codes "guard") d
  bridge ← number_at (codes "bridge") d
  job ← number_at (codes "job") d
  numbers ← number_at (codes "numbers") d
  check (is_policy (terms redundancy.0 redundancy.1 skew guard bridge job numbers)) wrong
  Ok (terms redundancy.0 redundancy.1 skew guard bridge job numbers)

-- the nine members of a job and no other: the policy, and how many actors of each kind
unfoldable pub members_of : Data → Result (Terms × ℕ × ℕ × ℕ) WrongForm
members_of d = do
  exactly (codes "redundancy" ∷ codes "skew" ∷ codes "guard" ∷ codes "bridge" ∷ codes "job" ∷ codes "numbers" ∷ codes "assigners" ∷ codes "tasks" ∷ codes "clerks" ∷ []) d
  policy ← policy_of d
  assigners ← number_at (codes "assigners") d
  tasks ← number_at (codes "tasks") d
  clerks ← number_at (codes "clerks") d
  Ok (policy, assigners, tasks, clerks)

-- a job of these members, each within its limits, of which that on clerks is given
abbrev pub job_within : ℕ → Terms × ℕ × ℕ × ℕ → Result Job WrongForm
job_within most (policy, assigners, tasks, clerks) = do
  check (is_within assigners 8 && is_within tasks 64 && is_within clerks most) wrong
  Ok (job_with policy assigners tasks clerks)

-- the job of a log, in which each client is a clerk
unfoldable pub job_of : Data → Result Job WrongForm
job_of d = do
  members ← members_of d
  job_within 4096 members

-- the job of a script
unfoldable pub script_job_of : Data → Result Job WrongForm
script_job_of d = do
  members ← members_of d
  job_within 16 members
