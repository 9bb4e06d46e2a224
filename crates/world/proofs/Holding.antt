-- Who may serve by the steps may serve by their calls, and a point between a `hold` and a `check` stands between their calls.
use Rattle.std.proofs.Common.{◌≡◌, ℕ, List, ◌∷◌, ◌++◌, refl, sym, ◌∙◌, ap, subst}
use Rattle.slice_ranges.specs.Hash.{slice_key}
use Rattle.key_handle.specs.declared.handle.KeyHandle.{KeyHandle}
use Rattle.job_calls.specs.declared.call.ClusterCall.TheVariants as call
use Rattle.job_calls.specs.declared.reply.ClusterReply.TheVariants as machine
use Rattle.job_calls.specs.declared.timing.Reading.TheVariants.{TaskClock}
use Rattle.cluster.specs.Timing.{IsNear}
use Rattle.cluster.specs.Pasts.{Event as ClusterEvent, event as cluster_event, Past as ClusterPast}
use Rattle.cluster.specs.Deliveries.{handles_made as handles_given}
use Rattle.cluster.specs.Headline.{MayServe as MayServeKey, IsWhileHeld as IsWhileKept}
use Rattle.world.specs.Jobs.{Job}
use Rattle.world.specs.declared.step.Step.TheVariants as step
use Rattle.replies.specs.declared.reply.Reply.TheVariants as reply
use Rattle.world.specs.Pasts.{Event, event, Past}
use Rattle.world.specs.Calls.{calls_in}
use Rattle.world.specs.Runs.{IsRun}
use Rattle.world.specs.Headline.{MayServe, IsWhileHeld}
use Rattle.world.proofs.Ruling.{run_before}
use Rattle.world.proofs.Running.{calls_extend}
use Rattle.world.proofs.Timing.{all_called, timely_calls}
use Rattle.world.proofs.Handles.{IsTaken, IsNumbered, handle_stays, hold_taken, check_found}

pub may_serve : (job : Job) (past : Past) (task : ℕ) (key : List ℕ) → MayServe job past task key → MayServeKey job (calls_in job past) task (slice_key key)
may_serve job past task key may =
    let at = may.0 in
    (at, (all_called (IsNear job.policy.skew (TaskClock at)) job past may.1.0, timely_calls job.policy.skew job past may.1.1), may.2)

module _ (job : Job) (run past : Past) (task : ℕ) (key : List ℕ) (while : IsWhileHeld run past task key) (is_run : IsRun job run) where
  abbrev from_hold : Past
  from_hold = while.between ++ while.hold ∷ while.before

  abbrev handle : KeyHandle
  handle = while.holds.handle

  run_to_check : IsRun job (while.check ∷ from_hold)
  run_to_check = run_before job while.later (while.check ∷ from_hold) (subst (IsRun job) while.whole is_run)

  run_at_hold : IsRun job (event (step.Hold while.holds.task while.holds.held while.holds.at) (reply.Holding while.number handle) ∷ while.before)
  run_at_hold = subst (λ (e : Event). IsRun job (e ∷ while.before)) while.holds.is (run_before job while.between (while.hold ∷ while.before) run_to_check.1)

  taken : IsTaken job while.before while.holds.task while.holds.held while.holds.at while.number handle
  taken = hold_taken job while.before while.holds.task while.holds.held while.holds.at while.number handle run_at_hold.0

  pub of_key : handle.key ≡ slice_key key
  of_key = sym (ap (λ (x : KeyHandle). x.key) taken.taken) ∙ while.holds.alike

  abbrev hold_event : ClusterEvent
  hold_event = cluster_event (call.Hold while.holds.task (slice_key while.holds.held) while.holds.at) (machine.Holding handle)

  abbrev check_event : ClusterEvent
  check_event = cluster_event (call.Check task handle while.checks.at) machine.Continuous

  called_hold : calls_in job (while.hold ∷ while.before) ≡ hold_event ∷ calls_in job while.before
  called_hold = ap (λ (e : Event). calls_in job (e ∷ while.before)) while.holds.is ∙ taken.event_now

  -- the handle of the number is still the one that was taken
  still_numbered : IsNumbered while.number handle (handles_given (calls_in job from_hold))
  still_numbered =
      let between = calls_extend job while.between (while.hold ∷ while.before) in
      subst (λ (calls : ClusterPast). IsNumbered while.number handle (handles_given calls)) (sym (between.1 ∙ ap (λ (calls : ClusterPast). between.0 ++ calls) called_hold))
      (handle_stays while.number handle between.0 (hold_event ∷ calls_in job while.before) taken.numbered_now)

  called_check : calls_in job (while.check ∷ from_hold) ≡ check_event ∷ calls_in job from_hold
  called_check =
      let answered = subst (λ (e : Event). IsRun job (e ∷ from_hold)) while.checks.is run_to_check in
      ap (λ (e : Event). calls_in job (e ∷ from_hold)) while.checks.is ∙ check_found job from_hold task while.number while.checks.at handle still_numbered answered.0

  pub while_kept : IsWhileKept (calls_in job run) (calls_in job past) task handle
  while_kept =
      let between = calls_extend job while.between (while.hold ∷ while.before) in
      let later = calls_extend job while.later (while.check ∷ from_hold) in
      let since = calls_extend job while.since while.before in
      let rest = calls_extend job while.rest past in
      let to_check = called_check ∙ ap (λ (p : ClusterPast). check_event ∷ p) (between.1 ∙ ap (λ (p : ClusterPast). between.0 ++ p) called_hold) in
      record {
        before = calls_in job while.before;
        hold = hold_event;
        between = between.0;
        check = check_event;
        later = later.0;
        whole = ap (calls_in job) while.whole ∙ (later.1 ∙ ap (λ (p : ClusterPast). later.0 ++ p) to_check);
        holds = record { task = while.holds.task; key = slice_key while.holds.held; at = while.holds.at; is = refl };
        checks = record { at = while.checks.at; is = refl };
        since = since.0;
        from_hold = ap (calls_in job) while.from_hold ∙ since.1;
        rest = rest.0;
        up_to_check = sym to_check ∙ (ap (calls_in job) while.up_to_check ∙ rest.1);
      }
