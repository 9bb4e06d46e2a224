use Rattle.std.proofs.Common.{◌≡◌, ℕ, ◌≤◌, Bool, true, false, [], ◌∷◌, refl, ap, arith}
use Rattle.std.specs.Prelude.{Option, Some, None, ◌==◌, not, nat_lt, nat_le, is_some, unwrap_or, if◌then◌else◌}
use Rattle.std.proofs.lemmas.Bool.Decides.{nat_tests}
use Rattle.std.proofs.lemmas.Bool.{and_parts}
use Rattle.machines.specs.Refusals.{when, first_of}
use Rattle.lease_rule.specs.declared.lease.Kind.{Kind}
use Rattle.lease_rule.specs.declared.lease.Kind.TheVariants.{Guard, Bridge}
use Rattle.assignment.specs.Slices.{Slicing}
use Rattle.grants.specs.declared.values.Grant.{Grant}
use Rattle.grants.specs.Policies.{is_policy}
use Rattle.grants.specs.Assignments.{generation_of}
use Rattle.lease_table.specs.Tables.{phase_with, phase_of}
use Rattle.lease_table.specs.Calls.{committed_in, pending_in}
use Rattle.lease_table.specs.Generations.{newest_with}
use Rattle.slicelet.specs.declared.next_action.TaskAction.{TaskAction}
use Rattle.slicelet.specs.declared.next_action.TaskAction.TheVariants.{Start, Ask, GiveUp, Rest}
use Rattle.slicelet.specs.NextActions.{other_kind, is_live_of, next_action}
use Rattle.slicelet.specs.States.{SliceletState}
use Rattle.job_calls.specs.Jobs.{Job}
use Rattle.cluster.specs.Pasts.{Past, table_calls, history, standing}
use Rattle.cluster.specs.Runs.{IsRun}
use Rattle.fence.specs.Giving.{is_superseded, may_give_up, carefully}
use Rattle.job_fence.proofs.laws.next_law.Goals as goal

gives_up : (wanted kind : Kind) (down none unheld other : Bool)
    → unwrap_or (first_of (when down Start ∷ when none Rest ∷ when unheld (Ask wanted) ∷ when other (GiveUp (other_kind wanted)) ∷ [])) Rest ≡ GiveUp kind
    → (unheld ≡ false) × (other_kind wanted ≡ kind)
gives_up wanted kind true none unheld other e = absurd (cc)
gives_up wanted kind false true unheld other e = absurd (cc)
gives_up wanted kind false false true other e = absurd (cc)
gives_up wanted kind false false false true e = (refl, cc)
gives_up wanted kind false false false false e = absurd (cc)

not_false : (b : Bool) → not b ≡ false → b ≡ true
not_false true e = refl
not_false false e = absurd (cc)

superseded : (committed at : ℕ) (guard bridge : Option Grant) → is_live_of committed at guard ≡ true
    → ((grant : Grant) → bridge ≡ Some grant → grant.lease.generation ≤ committed) → is_superseded guard bridge ≡ true
superseded committed at guard None live low = refl
superseded committed at None (Some bridge) live low = absurd (cc)
superseded committed at (Some guard) (Some bridge) live low =
    let same : (guard.lease.generation == committed) ≡ true = (and_parts (guard.lease.generation == committed) (nat_lt at guard.lease.ends) live).0 in
    let up = low bridge refl in
    let test : nat_le bridge.lease.generation guard.lease.generation ≡ true = grind (arith, nat_tests) in
    test

module _ (s : SliceletState) (committed at : ℕ) where
  by_phase : (p : Option Slicing) (kind : Kind) → ((grant : Grant) → s.bridge ≡ Some grant → grant.lease.generation ≤ newest_with committed p)
      → next_action s (phase_with committed p) at ≡ GiveUp kind → may_give_up s kind ≡ true
  by_phase p Guard low e = refl
  by_phase None Bridge low e =
      let parts = gives_up Guard Bridge (not s.up) (committed == 0) (not (is_live_of committed at s.guard)) (is_some s.bridge) e in
      superseded committed at s.guard s.bridge (not_false (is_live_of committed at s.guard) parts.0) low
  by_phase (Some next) Bridge low e =
      let parts = gives_up Bridge Bridge (not s.up) (next.generation == 0) (not (is_live_of next.generation at s.bridge)) (is_some s.guard) e in
      absurd (let same : Guard ≡ Bridge = parts.1 in cc)

kept_in : (c : goal.After-generations_law) (job : Job) (past : Past) (task at : ℕ) (kind : Kind) → is_policy job.policy ≡ true → IsRun job past
    → next_action (history task past) (phase_of (standing job.policy past)) at ≡ GiveUp kind → may_give_up (history task past) kind ≡ true
kept_in c job past task at kind within run e =
    let calls = table_calls past in
    let is_run = c.told_law.ensures.table job past run in
    let committed = c.generations_law.ensures.committed job.policy calls is_run in
    by_phase (history task past) (generation_of (committed_in calls)) at (pending_in calls) kind
    (λ grant held.
    let newest = c.leases_law.ensures.generation job.policy calls grant within is_run (c.sent_law.ensures.held job past task Bridge grant run held) in
    let same = ap (λ (n : ℕ). newest_with n (pending_in calls)) committed in
    omega (arith, newest, same)) e

pub returns-clause-kept : goal.returns-clause-kept
returns-clause-kept c = kept_in c

-- a task that is told to give up what it may does so
same_by : (s : SliceletState) (action : TaskAction) → ((kind : Kind) → action ≡ GiveUp kind → may_give_up s kind ≡ true) → carefully s action ≡ action
same_by s (GiveUp kind) may = by_test (may_give_up s kind) (may kind refl)
  where
    by_test : (b : Bool) → b ≡ true → (if b then GiveUp kind else Rest) ≡ GiveUp kind
    by_test true e = refl
    by_test false e = absurd (cc)
same_by s Start may = refl
same_by s (Ask kind) may = refl
same_by s Rest may = refl

pub returns-clause-same : goal.returns-clause-same
returns-clause-same c = λ job past task at within run.
    same_by (history task past) (next_action (history task past) (phase_of (standing job.policy past)) at) (λ kind e. kept_in c job past task at kind within run e)
