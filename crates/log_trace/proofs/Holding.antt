-- Who gave the handle that a `hold` was answered with, and when.
use Rattle.std.proofs.Common.{◌≡◌, ◌∙◌, ℕ, ◌≤◌, Bool, true, false, List, [], ◌∷◌, refl, sym, subst, arith}
use Rattle.std.specs.Prelude.{◌||◌, Option, nat_lt, not, option_map, unwrap_or, if◌then◌else◌}
use Rattle.std.proofs.lemmas.Bool.Decides.{nat_tests}
use Rattle.machines.specs.Numbers.{is_within}
use Rattle.machines.specs.Refusals.{first_of, when}
use Rattle.lease_rule.specs.declared.answer.Ground.TheVariants.{ClockBack, Down, Ended, NoLease, NotOwned}
use Rattle.lease_rule.specs.declared.answer.Verdict.{Verdict}
use Rattle.lease_rule.specs.declared.answer.Verdict.TheVariants.{Allow, Deny}
use Rattle.lease_rule.specs.declared.lease.Kind.TheVariants.{Guard, Bridge}
use Rattle.lease_rule.specs.Rule.{SeenHolding, allowed_by, greatest, is_allowed, is_covered, live_generation, rule}
use Rattle.key_handle.specs.declared.handle.KeyHandle.{KeyHandle}
use Rattle.slicelet.specs.Continuity.{handle_on, held_by}
use Rattle.slicelet.specs.Rules.{holding_after}
use Rattle.job_calls.specs.declared.call.ClusterCall.{ClusterCall}
use Rattle.job_calls.specs.declared.call.ClusterCall.TheVariants as call
use Rattle.job_calls.specs.declared.error.ClusterError.TheVariants as error
use Rattle.job_calls.specs.declared.reply.ClusterReply.{ClusterReply}
use Rattle.job_calls.specs.declared.reply.ClusterReply.TheVariants as reply
use Rattle.job_calls.specs.Jobs.{Job}
use Rattle.cluster.specs.Answers.{covers, hold_reply, rule_in}
use Rattle.cluster.specs.Pasts.{Past, event, history, task_calls}
use Rattle.cluster.specs.continued.Jobs.{from_start}
use Rattle.cluster.specs.continued.Runs.{IsReply}

abbrev told_hold : Bool → Verdict → KeyHandle → ClusterReply
told_hold b v taken = if b then hold_reply (held_by v taken) else reply.Refused error.NoActor

hold_allowed : (b : Bool) (v : Verdict) (taken handle : KeyHandle) → reply.Holding handle ≡ told_hold b v taken → (b ≡ true) × (is_allowed v ≡ true)
hold_allowed true (Allow kind generation) taken handle is = (refl, refl)
hold_allowed true (Deny why) taken handle is = absurd (cc)
hold_allowed false v taken handle is = absurd (cc)

-- a key is allowed at no reading below the last one
never_back : (up back : Bool) (cases : List (Option Verdict)) → back ≡ true
    → is_allowed (unwrap_or (first_of (when (not up) (Deny Down) ∷ when back (Deny ClockBack) ∷ cases)) (Deny NoLease)) ≡ false
never_back true true cases is = refl
never_back false true cases is = refl
never_back up false cases is = absurd (let f : false ≡ true = is in cc)

abbrev later_cases : SeenHolding → ℕ → List (Option Verdict)
later_cases h at =
    allowed_by Guard at h.guard ∷
    allowed_by Bridge at h.bridge ∷
    when (is_covered h.guard || is_covered h.bridge) (Deny Ended) ∷
    option_map (λ generation. Deny (NotOwned generation)) (greatest (live_generation at h.guard) (live_generation at h.bridge)) ∷ []

allowed_late : (h : SeenHolding) (at : ℕ) → is_allowed (rule h at) ≡ true → h.last ≤ at
allowed_late h at allowed = by_test (nat_lt at h.last) refl
  where
    by_test : (back : Bool) → back ≡ nat_lt at h.last → h.last ≤ at
    by_test true is = absurd (let f : true ≡ false = sym allowed ∙ never_back h.up (nat_lt at h.last) (later_cases h at) (sym is) in cc)
    by_test false is = grind (arith, nat_tests)

-- a handle was given by a task of the job, at its last reading or later
pub record IsTakenAt (job : Job) (past : Past) (task at : ℕ) : Type 0 where
  pub within : is_within task job.tasks ≡ true
  pub late : (history task past).last ≤ at

pub taken_at : (job : Job) (past : Past) (task key at : ℕ) (handle : KeyHandle) → IsReply (from_start job) past (event (call.Hold task key at) (reply.Holding handle))
    → IsTakenAt job past task at
taken_at job past task key at handle replied =
    let found = hold_allowed (is_within task job.tasks) (rule_in past task key at) (handle_on key (history task past)) handle replied.2 in
    record { within = found.0; late = allowed_late (holding_after (covers past key) (task_calls task past)) at found.1 }

-- the same after the call
pub taken_now : (job : Job) (past : Past) (c : ClusterCall) (r : ClusterReply) (task key at : ℕ) (handle : KeyHandle) → c ≡ call.Hold task key at → r ≡ reply.Holding handle
    → IsReply (from_start job) past (event c r) → IsTakenAt job (event c r ∷ past) task at
taken_now job past c r task key at handle asks told replied =
    let taken = taken_at job past task key at handle
    (subst (λ (x : ClusterReply). IsReply (from_start job) past (event (call.Hold task key at) x)) told (subst (λ (x : ClusterCall). IsReply (from_start job) past (event x r)) asks replied)) in
    subst (λ (x : ClusterCall). IsTakenAt job (event x r ∷ past) task at) (sym asks) (record { within = taken.within; late = taken.late })
