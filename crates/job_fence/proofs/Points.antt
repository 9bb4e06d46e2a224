-- What a request tells of the point of the run at which it was served.
use Rattle.std.proofs.Common.{◌≡◌, ℕ, ◌+◌, ◌-◌, ◌≤◌, true, false, List, ◌∷◌, refl, ap, subst, inl, inr, arith, Bool}
use Rattle.std.specs.Prelude.{Option, Some, option_map}
use Rattle.std.proofs.lemmas.Bool.{and_parts}
use Rattle.lease_rule.specs.declared.lease.Kind.{Kind}
use Rattle.lease_rule.specs.declared.lease.Kind.TheVariants.{Guard, Bridge}
use Rattle.lease_rule.specs.declared.answer.Verdict.TheVariants.{Allow}
use Rattle.lease_rule.specs.Leases.{SeenLease}
use Rattle.lease_rule.specs.Rule.{rule}
use Rattle.grants.specs.declared.values.Grant.{Grant}
use Rattle.lease_table.specs.Calls.{AnsweredTableCall}
use Rattle.lease_table.specs.Runs.{commits_in}
use Rattle.lease_table.specs.Generations.{assignment_in, newest_generation, owns_in, covers_as}
use Rattle.lease_table.specs.OpenRows.{IsSent}
use Rattle.slicelet.specs.Calls.{is_started, last_reading, held_grant}
use Rattle.slicelet.specs.Rules.{seen_by}
use Rattle.slicelet.specs.Laws.{HasCoveringLease}
use Rattle.job_calls.specs.Jobs.{Job}
use Rattle.job_calls.specs.declared.timing.Reading.TheVariants.{TaskClock}
use Rattle.job_calls.specs.Readings.{reading}
use Rattle.cluster.specs.Pasts.{Event, Past, table_calls, task_calls, history}
use Rattle.cluster.specs.Replies.{covers}
use Rattle.cluster.specs.Runs.{IsRun}
use Rattle.cluster.proofs.LiveLeases.{Covering}
use Rattle.fence.proofs.Newest.{IsTokenOf, token_parts}
use Rattle.job_fence.specs.Requests.{Request, IsServed}
use Rattle.job_fence.proofs.Tokens.{HasNewestLease, newest_lease}

-- what the laws below say of every run of a job
pub record HasLaws (job : Job) : Type 0 where
  pub covering : Covering
  pub sent : (past : Past) (task : ℕ) (kind : Kind) (grant : Grant) → IsRun job past → held_grant kind (task_calls task past) ≡ Some grant → IsSent (table_calls past) grant
  pub own : (past : Past) (task : ℕ) (kind : Kind) (grant : Grant) → IsRun job past → held_grant kind (task_calls task past) ≡ Some grant → grant.task ≡ task
  pub newest : (past : Past) (grant : Grant) → IsRun job past → IsSent (table_calls past) grant → grant.lease.generation ≤ newest_generation (table_calls past)
  pub bridge : (past : Past) (grant : Grant) → IsRun job past → IsSent (table_calls past) grant → grant.lease.generation ≡ commits_in (table_calls past) + 1
      → grant.lease.kind ≡ Bridge
  pub stays : (e : Event) (past : Past) (generation : ℕ) → IsRun job (e ∷ past) → generation ≤ newest_generation (table_calls past)
      → assignment_in generation (table_calls (e ∷ past)) ≡ assignment_in generation (table_calls past)
  pub grows : (e : Event) (past : Past) → newest_generation (table_calls past) ≤ newest_generation (table_calls (e ∷ past))

-- THE LEASES OF A SERVED REQUEST

-- a task that may serve a key was started
up_of : (up : Bool) (last at : ℕ) (guard bridge : Option SeenLease) (kind : Kind) (generation : ℕ)
    → rule (record { up = up; last = last; guard = guard; bridge = bridge }) at ≡ Allow kind generation → up ≡ true
up_of true last at guard bridge kind generation e = refl
up_of false last at guard bridge kind generation e = absurd (cc)

module _ (job : Job) (epoch : ℕ) (past : Past) (e : Event) (r : Request) (s : IsServed job epoch past e r) where
  -- the task's clock was read
  pub read_at : reading e.call ≡ TaskClock s.at
  read_at = elim s.asked [ inl serve ↦ ap reading serve | inr hold ↦ ap reading hold ]

  pub parts_of : IsTokenOf job.policy.high (covers past r.key) epoch (history r.task past) s.at r.token
  parts_of = token_parts job.policy.high (covers past r.key) epoch (history r.task past) s.at r.token s.token

  -- the lease under which it was served
  pub lease_of : Covering → HasCoveringLease (covers past r.key) (task_calls r.task past) s.at parts_of.kind parts_of.generation
  lease_of covering = covering (covers past r.key) (task_calls r.task past) s.at parts_of.kind parts_of.generation parts_of.allowed

  pub started_at : is_started (task_calls r.task past) ≡ true
  started_at =
      let h = task_calls r.task past in
      up_of (is_started h) (last_reading h) s.at (option_map (seen_by (covers past r.key)) (held_grant Guard h)) (option_map (seen_by (covers past r.key)) (held_grant Bridge h))
      parts_of.kind parts_of.generation parts_of.allowed

  -- the lease of its token, which is of the same generation or a later one
  pub token_of : HasNewestLease (covers past r.key) (task_calls r.task past) r.token.generation
  token_of = newest_lease (covers past r.key) r.task (task_calls r.task past) r.token.generation parts_of.newest

-- WHAT THE LEASE COVERS

covered_in : (kind : Kind) (calls : List AnsweredTableCall) (key : ℕ) (grant : Grant) → covers_as kind calls key grant ≡ true
    → owns_in calls grant.lease.generation key grant.task ≡ true
covered_in Guard calls key grant covered = covered
covered_in Bridge calls key grant covered =
    (and_parts (owns_in calls (grant.lease.generation - 1) key grant.task) (owns_in calls grant.lease.generation key grant.task) covered).1

covered_before : (kind : Kind) (calls : List AnsweredTableCall) (key : ℕ) (grant : Grant) → kind ≡ Bridge → covers_as kind calls key grant ≡ true
    → owns_in calls (grant.lease.generation - 1) key grant.task ≡ true
covered_before Guard calls key grant bridge covered = absurd (cc)
covered_before Bridge calls key grant bridge covered =
    (and_parts (owns_in calls (grant.lease.generation - 1) key grant.task) (owns_in calls grant.lease.generation key grant.task) covered).0

-- a task owns a key in a generation that has an assignment; if the generation is not committed yet, also in the committed one
pub record IsKnownOwner (calls : List AnsweredTableCall) (task key generation : ℕ) : Type 0 where
  pub known : generation ≤ newest_generation calls
  pub owned : owns_in calls generation key task ≡ true
  pub ahead : generation ≡ commits_in calls + 1 → owns_in calls (commits_in calls) key task ≡ true

by_grant : (calls : List AnsweredTableCall) (key : ℕ) (grant : Grant) → grant.lease.generation ≤ newest_generation calls
    → (grant.lease.generation ≡ commits_in calls + 1 → grant.lease.kind ≡ Bridge) → covers_as grant.lease.kind calls key grant ≡ true
    → IsKnownOwner calls grant.task key grant.lease.generation
by_grant calls key grant newest bridge covered = record {
  known = newest;
  owned = covered_in grant.lease.kind calls key grant covered;
  ahead = λ next.
      let before : grant.lease.generation - 1 ≡ commits_in calls = omega (arith, next) in
      subst (λ (g : ℕ). owns_in calls g key grant.task ≡ true) before (covered_before grant.lease.kind calls key grant (bridge next) covered);
}

pub owner_at : (job : Job) → HasLaws job → (epoch : ℕ) (past : Past) (e : Event) (r : Request) → IsRun job (e ∷ past) → IsServed job epoch past e r
    → IsKnownOwner (table_calls past) r.task r.key r.token.generation
owner_at job laws epoch past e r run s =
    let lease = token_of job epoch past e r s in
    let sent = laws.sent past r.task lease.kind lease.grant run.1 lease.is_held in
    let by = by_grant (table_calls past) r.key lease.grant (laws.newest past lease.grant run.1 sent) (laws.bridge past lease.grant run.1 sent) lease.covered in
    let of_task = subst (λ (t : ℕ). IsKnownOwner (table_calls past) t r.key lease.grant.lease.generation) (laws.own past r.task lease.kind lease.grant run.1 lease.is_held) by in
    subst (λ (g : ℕ). IsKnownOwner (table_calls past) r.task r.key g) lease.told of_task
