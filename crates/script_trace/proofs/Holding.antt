-- Who gave the handle that a `hold` was answered with, and when.
use Rattle.std.proofs.Common.{◌≡◌, ◌∙◌, ℕ, ◌≤◌, Bool, true, false, List, [], ◌∷◌, refl, sym, ap, subst, inl, inr, arith}
use Rattle.std.specs.Prelude.{◌||◌, Option, nat_lt, not, option_map, unwrap_or, if◌then◌else◌}
use Rattle.std.proofs.lemmas.Bool.Decides.{nat_tests}
use Rattle.machines.specs.Numbers.{is_within}
use Rattle.machines.specs.Refusals.{first_of, when}
use Rattle.slice_ranges.specs.Hash.{slice_key}
use Rattle.lease_rule.specs.declared.answer.Ground.TheVariants.{ClockBack, Down, Ended, NoLease, NotOwned}
use Rattle.lease_rule.specs.declared.answer.Verdict.{Verdict}
use Rattle.lease_rule.specs.declared.answer.Verdict.TheVariants.{Allow, Deny}
use Rattle.lease_rule.specs.declared.lease.Kind.TheVariants.{Guard, Bridge}
use Rattle.lease_rule.specs.Rule.{SeenHolding, allowed_by, greatest, is_allowed, is_covered, live_generation, rule}
use Rattle.key_handle.specs.declared.handle.KeyHandle.{KeyHandle}
use Rattle.slicelet.specs.Continuity.{handle_on, held_by}
use Rattle.slicelet.specs.Rules.{holding_after}
use Rattle.job_calls.specs.declared.error.ClusterError.TheVariants as error
use Rattle.job_calls.specs.declared.reply.ClusterReply.{ClusterReply}
use Rattle.job_calls.specs.declared.reply.ClusterReply.TheVariants as machine
use Rattle.cluster.specs.Pasts.{Past as Calls, history, task_calls}
use Rattle.cluster.specs.Replies.{covers, hold_reply, rule_in}
use Rattle.replies.specs.declared.reply.Reply.{Reply}
use Rattle.replies.specs.declared.reply.Reply.TheVariants as reply
use Rattle.replies.specs.declared.told.NextNumbers.{NextNumbers}
use Rattle.replies.specs.Told.{told_as}
use Rattle.world.specs.Jobs.{Job}
use Rattle.world.specs.declared.step.Step.{Step}
use Rattle.world.specs.declared.step.Step.TheVariants as step
use Rattle.world.specs.Pasts.{Past, event}
use Rattle.world.specs.Calls.{calls_in}
use Rattle.world.specs.Replies.{named, next_numbers}
use Rattle.world.specs.Runs.{IsReply}

abbrev told_hold : Bool → Verdict → KeyHandle → ClusterReply
told_hold b v taken = if b then hold_reply (held_by v taken) else machine.Refused error.NoActor

hold_allowed : (s : Step) (next : NextNumbers) (b : Bool) (v : Verdict) (taken handle : KeyHandle) (number : ℕ)
    → reply.Holding number handle ≡ told_as (named s) next (told_hold b v taken) → (b ≡ true) × (is_allowed v ≡ true)
hold_allowed s next true (Allow kind generation) taken handle number is = (refl, refl)
hold_allowed s next true (Deny why) taken handle number is = absurd (cc)
hold_allowed s next false v taken handle number is = absurd (cc)

-- a key is allowed at no reading below the last one
never_back : (up back : Bool) (cases : List (Option Verdict)) → back ≡ true
    → is_allowed (unwrap_or (first_of (when (not up) (Deny Down) ∷ when back (Deny ClockBack) ∷ cases)) (Deny NoLease)) ≡ false
never_back true true cases is = refl
never_back false true cases is = refl
never_back up false cases is = absurd (let f : false ≡ true = is in cc)

abbrev later_cases : SeenHolding → ℕ → List (Option Verdict)
later_cases h at =
    allowed_by Guard at h.guard ∷
    allowed_by Bridge at h.bridge ∷
    when (is_covered h.guard || is_covered h.bridge) (Deny Ended) ∷
    option_map (λ generation. Deny (NotOwned generation)) (greatest (live_generation at h.guard) (live_generation at h.bridge)) ∷ []

pub allowed_late : (h : SeenHolding) (at : ℕ) → is_allowed (rule h at) ≡ true → h.last ≤ at
allowed_late h at allowed = by_test (nat_lt at h.last) refl
  where
    by_test : (back : Bool) → back ≡ nat_lt at h.last → h.last ≤ at
    by_test true is = absurd (let f : true ≡ false = sym allowed ∙ never_back h.up (nat_lt at h.last) (later_cases h at) (sym is) in cc)
    by_test false is = grind (arith, nat_tests)

-- a handle was given by a task of the job, at its last reading or later
pub record IsTakenAt (job : Job) (calls : Calls) (task at : ℕ) : Type 0 where
  pub within : is_within task job.tasks ≡ true
  pub late : (history task calls).last ≤ at

pub taken_at : (job : Job) (past : Past) (task : ℕ) (key : List ℕ) (at number : ℕ) (handle : KeyHandle)
    → IsReply job past (event (step.Hold task key at) (reply.Holding number handle)) → IsTakenAt job (calls_in job past) task at
taken_at job past task key at number handle replied =
    let calls = calls_in job past in
    elim replied [
      | inl answered ↦ (
          let found = hold_allowed (step.Hold task key at) (next_numbers calls) (is_within task job.tasks) (rule_in calls task (slice_key key) at)
          (handle_on (slice_key key) (history task calls)) handle number answered.2 in
          record { within = found.0; late = allowed_late (holding_after (covers calls (slice_key key)) (task_calls task calls)) at found.1 })
      | inr none ↦ absurd (cc)
    ]

-- the same after the step
module _ (job : Job) (past : Past) (s : Step) (r : Reply) (task : ℕ) (key : List ℕ) (at number : ℕ) (handle : KeyHandle)
    (asks : s ≡ step.Hold task key at) (told : r ≡ reply.Holding number handle) where
  at_end : (calls : Calls) → calls ≡ calls_in job (event (step.Hold task key at) (reply.Holding number handle) ∷ past)
      → IsTakenAt job (calls_in job past) task at → IsTakenAt job calls task at
  at_end calls same taken =
      subst (λ (p : Calls). IsTakenAt job p task at) (sym same) (record { within = taken.within; late = taken.late })

  pub taken_now : IsReply job past (event s r) → IsTakenAt job (calls_in job (event s r ∷ past)) task at
  taken_now replied =
      at_end (calls_in job (event s r ∷ past))
      (ap (λ (x : Step). calls_in job (event x r ∷ past)) asks ∙ ap (λ (x : Reply). calls_in job (event (step.Hold task key at) x ∷ past)) told)
      (taken_at job past task key at number handle
      (subst (λ (x : Reply). IsReply job past (event (step.Hold task key at) x)) told (subst (λ (x : Step). IsReply job past (event x r)) asks replied)))
