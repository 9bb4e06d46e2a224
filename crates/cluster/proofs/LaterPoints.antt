-- What a later point of a run adds: calls of a task at readings near to the earlier point, and nothing to what a lease covers.
use Rattle.std.proofs.Common.{◌≡◌, ℕ, ◌-◌, ◌≤◌, Bool, true, false, ◌&&◌, List, [], ◌∷◌, ◌++◌, refl, sym, ◌∙◌, ap, subst, inl, inr, arith}
use Rattle.std.proofs.lemmas.Bool.{true≢false}
use Rattle.std.specs.Prelude.{Option}
use Rattle.std.specs.List.{AllByRecursion}
use Rattle.machines.proofs.Every.{all_weaker}
use Rattle.lease_rule.specs.declared.lease.Kind.{Kind}
use Rattle.lease_rule.specs.declared.lease.Kind.TheVariants.{Guard, Bridge}
use Rattle.assignment.specs.Slices.{Slicing}
use Rattle.assignment.specs.Owners.{owns}
use Rattle.grants.specs.declared.values.Grant.{Grant}
use Rattle.grants.specs.Assignments.{slices_of}
use Rattle.lease_table.specs.Calls.{AnsweredTableCall}
use Rattle.lease_table.specs.Generations.{assignment_in, newest_generation, owns_in, covers_as}
use Rattle.lease_table.specs.OpenRows.{IsSent}
use Rattle.grants.specs.declared.slicelet_call.SliceletCall.{SliceletCall}
use Rattle.grants.specs.declared.slicelet_call.SliceletCall.TheVariants.{Start, Hear, Release, Resume}
use Rattle.slicelet.specs.Calls.{ends_life, reading_of}
use Rattle.grants.specs.SliceletCalls.{clock_reading}
use Rattle.slicelet.specs.Continuity.{next_reading}
use Rattle.slicelet.specs.Laws.{AgreeOnCall, AgreeOnHeard}
use Rattle.cluster.specs.continued.Jobs.{Continued}
use Rattle.job_calls.specs.declared.timing.Reading.{Reading}
use Rattle.job_calls.specs.declared.timing.Reading.TheVariants.{TaskClock}
use Rattle.cluster.specs.Timing.{IsNear, IsTimely}
use Rattle.cluster.specs.Pasts.{Event, Past, readings, table_calls, task_calls}
use Rattle.job_calls.specs.Readings.{at_task, reading}
use Rattle.cluster.specs.Answers.{covers}
use Rattle.cluster.specs.continued.Runs.{IsRun}
use Rattle.slicelet.proofs.Processes.{IsWithinLife}
use Rattle.cluster.proofs.Adding.{AddsTaskCall, adds_to_task}
use Rattle.cluster.proofs.Sending.{HearsSent, all_heard_sent}
use Rattle.cluster.proofs.Ruling.{run_before}

-- THE CALLS OF A TASK

-- this holds of each reading of a task in some events
abbrev pub AreRead : (ℕ → Type 0) → Past → Type 0
AreRead P events = AllByRecursion (λ (e : Event). (r : ℕ) → reading e.call ≡ TaskClock r → P r) events

-- calls are some earlier ones with later ones; what holds of the readings between, and of the last one, holds of the first
-- later call's, if they are all of one life
pub record IsLonger (P : ℕ → Type 0) (calls whole : List SliceletCall) (at : ℕ) : Type 0 where
  pub later : List SliceletCall
  pub parts : whole ≡ later ++ calls
  pub next : AllByRecursion IsWithinLife later → P (next_reading later at)

pub read_anything : (more : Past) → AreRead (λ r. Unit {0}) more
read_anything [] = tt
read_anything (e ∷ more) = (λ r read. tt, read_anything more)

-- a call within a life reads the clock
within_reads : (c : SliceletCall) → ends_life c ≡ false → at_task (clock_reading c) ≡ TaskClock (reading_of c)
within_reads (Start life at) e = refl
within_reads (Hear grant at) e = refl
within_reads (Release kind at) e = refl
within_reads (Resume life) e = absurd (cc)

pub longer : (P : ℕ → Type 0) (task : ℕ) (past more : Past) (at : ℕ) → P at → AreRead P more → IsLonger P (task_calls task past) (task_calls task (more ++ past)) at
longer P task past [] at last all = record { later = []; parts = refl; next = λ within. last }
longer P task past (e ∷ more) at last all =
    elim (adds_to_task task (more ++ past) e) [
      | inl same ↦ (
          let r = longer P task past more at last all.1 in
          record { later = r.later; parts = same ∙ r.parts; next = r.next })
      | inr new ↦ by_end new (ends_life new.made) refl (longer (λ r. Unit {0}) task past more at tt (read_anything more))
          (λ here. longer P task past more (reading_of new.made) here all.1)
    ]
  where
    by_end : (new : AddsTaskCall task (more ++ past) e) (b : Bool) → ends_life new.made ≡ b
        → IsLonger (λ r. Unit {0}) (task_calls task past) (task_calls task (more ++ past)) at
        → (P (reading_of new.made) → IsLonger P (task_calls task past) (task_calls task (more ++ past)) (reading_of new.made))
        → IsLonger P (task_calls task past) (task_calls task (e ∷ (more ++ past))) at
    by_end new true ends any rest = record {
      later = new.made ∷ any.later;
      parts = new.added ∙ ap (λ (calls : List SliceletCall). new.made ∷ calls) any.parts;
      next = λ within. absurd (true≢false (sym ends ∙ within.0));
    }
    by_end new false goes any rest =
        let here = all.0 (reading_of new.made) (ap (λ (x : Event). reading x.call) new.is ∙ within_reads new.made goes) in
        let r = rest here in
        record {
          later = new.made ∷ r.later;
          parts = new.added ∙ ap (λ (calls : List SliceletCall). new.made ∷ calls) r.parts;
          next = λ within. r.next within.1;
        }

-- TIMELY READINGS

-- a reading of a task is near to each earlier one
abbrev pub IsNearTo : ℕ → Past → ℕ → Type 0
IsNearTo skew past at = AllByRecursion (IsNear skew (TaskClock at)) (readings past)

all_before : (P : Reading → Type 0) (more past : Past) → AllByRecursion P (readings (more ++ past)) → AllByRecursion P (readings past)
all_before P [] past all = all
all_before P (e ∷ more) past all = all_before P more past all.1

module _ (skew : ℕ) where
  pub near_before : (at : ℕ) (more past : Past) → IsNearTo skew (more ++ past) at → IsNearTo skew past at
  near_before at more past near = all_before (IsNear skew (TaskClock at)) more past near

  pub timely_at_point : (more past : Past) → IsTimely skew (readings (more ++ past)) → IsTimely skew (readings past)
  timely_at_point [] past timely = timely
  timely_at_point (e ∷ more) past timely = timely_at_point more past timely.1

  -- a timely reading after a point is near to it
  pub near_after : (more past : Past) → IsTimely skew (readings (more ++ past)) → AreRead (IsNearTo skew past) more
  near_after [] past timely = tt
  near_after (e ∷ more) past timely = (
    λ r read. subst (λ (x : Reading). AllByRecursion (IsNear skew x) (readings past)) read (all_before (IsNear skew (reading e.call)) more past timely.0),
    near_after more past timely.1,
  )

-- WHAT A LEASE COVERS

module _ (calls other : List AnsweredTableCall) (key : ℕ) (grant : Grant)
    (same : (generation : ℕ) → generation ≤ grant.lease.generation → assignment_in generation calls ≡ assignment_in generation other) where
  same_owner : (generation : ℕ) → generation ≤ grant.lease.generation → owns_in calls generation key grant.task ≡ owns_in other generation key grant.task
  same_owner generation low = ap (λ (o : Option Slicing). owns (slices_of o) key grant.task) (same generation low)

  covers_same : (kind : Kind) → covers_as kind calls key grant ≡ covers_as kind other key grant
  covers_same Guard = same_owner grant.lease.generation (omega arith)
  covers_same Bridge =
      ap (λ (b : Bool). b && owns_in calls grant.lease.generation key grant.task) (same_owner (grant.lease.generation - 1) (omega arith))
      ∙ ap (λ (b : Bool). owns_in other (grant.lease.generation - 1) key grant.task && b) (same_owner grant.lease.generation (omega arith))

-- the slices of a known generation never change, and a grant that was sent is of one
pub record KeepsGenerations (job : Continued) : Type 0 where
  pub known : (later past : Past) (generation : ℕ) → IsRun job (later ++ past) → generation ≤ newest_generation (table_calls past)
      → assignment_in generation (table_calls (later ++ past)) ≡ assignment_in generation (table_calls past)
  pub newest : (past : Past) (grant : Grant) → IsRun job past → IsSent (table_calls past) grant → grant.lease.generation ≤ newest_generation (table_calls past)

module _ (job : Continued) (keeps : KeepsGenerations job) (more past : Past) (key : ℕ) (run : IsRun job (more ++ past)) where
  agree_heard : (c : SliceletCall) → HearsSent (table_calls past) c → AgreeOnCall (covers (more ++ past) key) (covers past key) c
  agree_heard (Start life at) h = tt
  agree_heard (Hear grant at) h =
      let low = keeps.newest past grant (run_before job more past run) h in
      covers_same (table_calls (more ++ past)) (table_calls past) key grant
      (λ generation l. keeps.known more past generation run (omega (arith, l, low))) grant.lease.kind
  agree_heard (Release kind at) h = tt
  agree_heard (Resume life) h = tt

  -- a lease that a task heard covers later what it covered
  pub agree_later : (task : ℕ) → AgreeOnHeard (covers (more ++ past) key) (covers past key) (task_calls task past)
  agree_later task =
      all_weaker (HearsSent (table_calls past)) (AgreeOnCall (covers (more ++ past) key) (covers past key)) (task_calls task past) agree_heard
      (all_heard_sent job task past (run_before job more past run))
