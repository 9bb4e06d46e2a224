-- What the checks of a snapshot say, and that the snapshot of a run passes them.
use Rattle.std.proofs.Common.{◌≡◌, ℕ, ◌≤◌, Bool, true, false, ◌||◌, not, List, [], ◌∷◌, ◌++◌, length, refl, sym, ◌∙◌, ap, arith}
use Rattle.std.specs.Prelude.{◌^◌, nat_lt, nat_eq, Option, Some, None, option_map}
use Rattle.std.specs.List.{AllByRecursion}
use Rattle.std.proofs.lemmas.Bool.Decides.{nat_tests}
use Rattle.std.proofs.lemmas.List.{length-append}
use Rattle.machines.specs.Refusals.{when, first_of}
use Rattle.machines.specs.declared.machine.Trouble.{Trouble}
use Rattle.machines.specs.declared.machine.Trouble.TheVariants.{Refused, NoMemory}
use Rattle.machines.proofs.Refused.{all_none, not_when}
use Rattle.grants.specs.declared.kept.Kept.{Kept}
use Rattle.grants.specs.declared.snapshot.SnapshotFault.{SnapshotFault}
use Rattle.grants.specs.Policies.{is_policy}
use Rattle.grants.specs.Snapshots.{snapshot_checks, newest_in}
use Rattle.lease_table.proofs.Snapshots.{snapshot_taken}
use Rattle.job_calls.specs.Jobs.{Job}
use Rattle.cluster.specs.Pasts.{Past, table_calls, grants}
use Rattle.job_calls.specs.declared.snapshot.ClusterSnapshot.{ClusterSnapshot}
use Rattle.job_calls.specs.declared.snapshot.ResumeFault.{ResumeFault}
use Rattle.job_calls.specs.declared.snapshot.ResumeFault.TheVariants as fault
use Rattle.cluster.specs.continued.Jobs.{from_start}
use Rattle.cluster.specs.continued.Clusters.{AreAfter}
use Rattle.job_calls.specs.Snapshots.{resume_checks}
use Rattle.cluster.specs.continued.Snapshots.{IsSnapshotOf, IsResumeTrouble}
use Rattle.cluster.specs.internals.Proposals.{proposals_in}
use Rattle.cluster.specs.internals.Resuming.{AreRefused}
use Rattle.cluster.proofs.Publishing.{proposals_counted}
use Rattle.cluster.proofs.TableRuns.{table_run}

-- A SNAPSHOT WITHOUT A FAULT

pub record HasNoFault (job : Job) (s : ClusterSnapshot) : Type 0 where
  pub table : first_of (snapshot_checks job.policy s.table) ≡ None
  pub tasks : length s.tasks.items ≡ job.tasks
  pub clerks : length s.clerks.items ≡ job.clerks
  pub grants : length s.grants.items ≤ s.table.kept.granted
  pub assignments : length s.assignments.items ≤ newest_in s.table.kept
  pub notes : s.notes_made ≤ 2 ^ 62
  pub handles : s.handles_made ≤ 2 ^ 62

no_table_fault : (o : Option SnapshotFault) → option_map fault.Table o ≡ None → o ≡ None
no_table_fault None e = refl
no_table_fault (Some found) e = absurd (cc)

same_count : (m n : ℕ) → not (nat_eq m n) ≡ false → m ≡ n
same_count m n e = by_test (nat_eq m n) refl e
  where
    by_test : (b : Bool) → b ≡ nat_eq m n → not b ≡ false → m ≡ n
    by_test true t e = grind (arith, nat_tests)
    by_test false t e = absurd (cc)

not_above : (m n : ℕ) → nat_lt m n ≡ false → n ≤ m
not_above m n e = grind (arith, nat_tests)

neither : (a b : Bool) → (a || b) ≡ false → (a ≡ false) × (b ≡ false)
neither true b e = absurd (cc)
neither false b e = (refl, e)

pub without_fault : (job : Job) (s : ClusterSnapshot) → first_of (resume_checks job s) ≡ None → HasNoFault job s
without_fault job s e =
    let none = all_none (resume_checks job s) e in
    let counts = neither _ _ (not_when _ _ none.1.1.1.1.1.0) in
    record {
      table = no_table_fault _ none.0;
      tasks = same_count _ _ (not_when _ _ none.1.0);
      clerks = same_count _ _ (not_when _ _ none.1.1.0);
      grants = not_above _ _ (not_when _ _ none.1.1.1.0);
      assignments = not_above _ _ (not_when _ _ none.1.1.1.1.0);
      notes = not_above (2 ^ 62) s.notes_made counts.0;
      handles = not_above (2 ^ 62) s.handles_made counts.1;
    }

-- A SNAPSHOT WITH A FAULT

-- the calls of the tasks are none of the checks
none_of_tasks : (checks : List (Option ResumeFault)) → AllByRecursion (λ (c : Option ResumeFault). c ≡ Some fault.TaskCalls → ⊥) checks → first_of checks ≡ Some fault.TaskCalls → ⊥
none_of_tasks [] h e = cc
none_of_tasks (None ∷ checks) h e = none_of_tasks checks h.1 e
none_of_tasks (Some found ∷ checks) h e = h.0 e

other_fault : (b : Bool) (found : ResumeFault) → (found ≡ fault.TaskCalls → ⊥) → when b found ≡ Some fault.TaskCalls → ⊥
other_fault true found other e = other (cc)
other_fault false found other e = cc

fault_of_table : (o : Option SnapshotFault) → option_map fault.Table o ≡ Some fault.TaskCalls → ⊥
fault_of_table None e = cc
fault_of_table (Some found) e = cc

pub fault_told : (job : Job) (s : ClusterSnapshot) (why : ResumeFault) → first_of (resume_checks job s) ≡ Some why → IsResumeTrouble job s (Refused why)
fault_told job s (fault.Table found) e = e
fault_told job s fault.Tasks e = e
fault_told job s fault.Clerks e = e
fault_told job s fault.Grants e = e
fault_told job s fault.Assignments e = e
fault_told job s fault.Counts e = e
fault_told job s fault.TaskCalls e =
    absurd (none_of_tasks (resume_checks job s) (
      fault_of_table _,
      (
        other_fault _ fault.Tasks (λ same. cc),
        (
          other_fault _ fault.Clerks (λ same. cc),
          (other_fault _ fault.Grants (λ same. cc), (other_fault _ fault.Assignments (λ same. cc), (other_fault _ fault.Counts (λ same. cc), tt))),
        ),
      ),
    ) e)

-- THE SNAPSHOT OF A RUN

none_first : (checks : List (Option ResumeFault)) → AllByRecursion (λ (c : Option ResumeFault). c ≡ None) checks → first_of checks ≡ None
none_first [] h = refl
none_first (None ∷ checks) h = none_first checks h.1
none_first (Some found ∷ checks) h = absurd (let e : Some found ≡ None = h.0 in cc)

when_not : (b : Bool) (found : ResumeFault) → b ≡ false → when b found ≡ None
when_not true found e = absurd (cc)
when_not false found e = refl

counted_same : (m n : ℕ) → m ≡ n → not (nat_eq m n) ≡ false
counted_same m n e = let same : nat_eq m n ≡ true = grind (arith, nat_tests) in ap not same

within : (m n : ℕ) → n ≤ m → nat_lt m n ≡ false
within m n l = grind (arith, nat_tests)

both_within : (a b : Bool) → a ≡ false → b ≡ false → (a || b) ≡ false
both_within a b e f = rw (e, f) refl

-- what is kept of what was made is not more
no_more_kept : {A : Type 0} (first many : ℕ) (made kept : List A) → AreAfter first made kept → length made ≡ many → length kept ≤ many
no_more_kept first many made kept are count =
    let whole : length made ≡ length (are.before ++ kept) = ap (λ (xs : List _). length xs) are.all in
    let parts = length-append are.before kept in
    omega (arith, whole, parts, count)

module _ (job : Job) (policy : is_policy job.policy ≡ true) (past : Past) (s : ClusterSnapshot) (is : IsSnapshotOf job past s) where
  granted : length (grants past) ≡ s.table.kept.granted
  granted = sym (ap (λ (k : Kept). k.granted) is.table.kept)

  proposed : length (proposals_in (table_calls past)) ≡ newest_in s.table.kept
  proposed = proposals_counted job.policy (table_calls past) (table_run (from_start job) past is.run) ∙ sym (ap newest_in is.table.kept)

  pub run_unrefused : s.notes_made ≤ 2 ^ 62 → s.handles_made ≤ 2 ^ 62 → first_of (resume_checks job s) ≡ None
  run_unrefused notes handles =
      none_first (resume_checks job s) (
        ap (option_map fault.Table) (snapshot_taken job.policy policy (table_calls past) (table_run (from_start job) past is.run) s.table is.table),
        (
          when_not _ _ (counted_same _ _ is.all_tasks),
          (
            when_not _ _ (counted_same _ _ is.clerks.0),
            (
              when_not _ _ (within _ _ (no_more_kept _ _ _ _ is.grants granted)),
              (
                when_not _ _ (within _ _ (no_more_kept _ _ _ _ is.proposals proposed)),
                (when_not _ _ (both_within _ _ (within (2 ^ 62) s.notes_made notes) (within (2 ^ 62) s.handles_made handles)), tt),
              ),
            ),
          ),
        ),
      )

-- no slicelet refuses a call
pub tasks_unrefused : (job : Job) (past : Past) (s : ClusterSnapshot) → IsSnapshotOf job past s → (trouble : Trouble ResumeFault) → AreRefused s.tasks.items trouble → trouble ≡ NoMemory
tasks_unrefused job past s is (Refused why) t = absurd (t.1.refused (is.tasks t.1.place t.1.task t.1.here).accepted)
tasks_unrefused job past s is NoMemory t = refl
