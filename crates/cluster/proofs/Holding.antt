-- Where a `check` finds a handle continuous, its task may serve the key at each point from the handle's `hold` on.
use Rattle.std.proofs.Common.{◌≡◌, ℕ, Bool, true, false, not, ◌&&◌, ◌||◌, List, ◌∷◌, ◌++◌, refl, sym, ◌∙◌, ap, subst, eqb-true}
use Rattle.std.specs.Prelude.{IsTrue, ◌==◌, nat_lt, nat_le, if◌then◌else◌}
use Rattle.std.specs.List.{AllByRecursion}
use Rattle.lease_rule.specs.declared.answer.Verdict.{Verdict}
use Rattle.lease_rule.specs.declared.answer.Verdict.TheVariants.{Allow, Deny}
use Rattle.key_handle.specs.declared.handle.KeyHandle.{KeyHandle}
use Rattle.grants.specs.declared.values.Grant.{Grant}
use Rattle.machines.specs.Numbers.{is_within}
use Rattle.grants.specs.declared.slicelet_call.SliceletCall.{SliceletCall}
use Rattle.slicelet.specs.Calls.{life_of, count_of}
use Rattle.slicelet.specs.Accepted.{AreAccepted}
use Rattle.slicelet.specs.States.{SliceletState}
use Rattle.slicelet.specs.Rules.{is_permitted}
use Rattle.slicelet.specs.Continuity.{handle_on, held_by, IsContinuous, is_strange, next_reading}
use Rattle.slicelet.specs.Laws.{AgreeOnHeard}
use Rattle.cluster.specs.continued.Jobs.{Continued, job_in}
use Rattle.job_calls.specs.declared.error.ClusterError.TheVariants as error
use Rattle.job_calls.specs.declared.call.ClusterCall.TheVariants as call
use Rattle.job_calls.specs.declared.reply.ClusterReply.TheVariants as reply
use Rattle.cluster.specs.Timing.{IsTimely}
use Rattle.cluster.specs.Pasts.{Event, event, Past, readings, task_calls, history}
use Rattle.cluster.specs.continued.Deliveries.{knows_handle}
use Rattle.cluster.specs.Answers.{covers, rule_in, hold_reply, check_reply}
use Rattle.cluster.specs.continued.Runs.{IsReply, IsRun}
use Rattle.cluster.specs.Headline.{MayServe, IsWhileHeld}
use Rattle.slicelet.proofs.Processes.{IsWithinLife, continuous_in_life}
use Rattle.cluster.proofs.TaskAcceptance.{accepted_calls}
use Rattle.cluster.proofs.Ruling.{run_before}
use Rattle.cluster.proofs.LaterPoints.{IsLonger, longer, read_anything, IsNearTo, near_before, timely_at_point, near_after, KeepsGenerations, agree_later}

abbrev pub Between : Type 0
Between = (task : ℕ) (covers : Grant → Bool) (later before h : List SliceletCall) (handle : KeyHandle) (at : ℕ) → AreAccepted task (later ++ (before ++ h))
    → handle.life ≡ life_of h → handle.position ≡ count_of h → IsContinuous covers (later ++ (before ++ h)) handle at → IsTrue (is_permitted covers (before ++ h) (next_reading later at))

abbrev pub Agreeing : Type 0
Agreeing = (covers other : Grant → Bool) (h : List SliceletCall) (at : ℕ) → AgreeOnHeard covers other h
    → is_permitted covers h at ≡ is_permitted other h at

-- what the laws say that the interval rests on
pub record HasLaws (job : Continued) : Type 0 where
  pub between : Between
  pub agreeing : Agreeing
  pub keeps : KeepsGenerations job

-- A HANDLE THAT IS CONTINUOUS AT A LATER POINT

-- a task took a handle after an earlier past, and finds it continuous after a whole one, at a reading near to it
record IsKept (job : Continued) (whole before : Past) (task at : ℕ) (handle : KeyHandle) : Type 0 where
  life : handle.life ≡ life_of (task_calls task before)
  position : handle.position ≡ count_of (task_calls task before)
  continuous : IsContinuous (covers whole handle.key) (task_calls task whole) handle at
  near : IsNearTo job.policy.skew whole at

module _ (job : Continued) (laws : HasLaws job) (rest since before : Past) (task at : ℕ) (handle : KeyHandle) (run : IsRun job (rest ++ (since ++ before))) where
  abbrev point : Past
  point = since ++ before

  -- at the reading of the task's next call, or at that of the `check`, the key is permitted at the point, and all calls since are of one life
  permitted_there : IsKept job (rest ++ point) before task at handle → (P : ℕ → Type 0)
      → (next : IsLonger P (task_calls task point) (task_calls task (rest ++ point)) at)
      → AllByRecursion IsWithinLife next.later × (is_permitted (covers point handle.key) (task_calls task point) (next_reading next.later at) ≡ true)
  permitted_there k P next =
      let now = task_calls task point in
      let covering = covers (rest ++ point) handle.key in
      let r = next_reading next.later at in
      let past = longer (λ r. Unit {0}) task before since at tt (read_anything since) in
      let parts = next.parts ∙ ap (λ (calls : List SliceletCall). next.later ++ calls) past.parts in
      let accepted = subst (AreAccepted task) parts (accepted_calls job (rest ++ point) task run) in
      let continuous = subst (λ (calls : List SliceletCall). IsContinuous covering calls handle at) parts k.continuous in
      let of_life = continuous_in_life task covering next.later past.later (task_calls task before) handle at accepted k.life continuous in
      let kept = laws.between task covering next.later past.later (task_calls task before) handle at accepted k.life k.position continuous in
      let seen_later = subst (λ (calls : List SliceletCall). is_permitted covering calls r ≡ true) (sym past.parts) kept in
      (of_life.later_calls, sym (laws.agreeing covering (covers point handle.key) now r (agree_later job laws.keeps rest point handle.key run task)) ∙ seen_later)

  serves_there : IsKept job (rest ++ point) before task at handle → IsTimely job.policy.skew (readings (rest ++ point)) → MayServe (job_in job) point task handle.key
  serves_there k timely =
      let skew = job.policy.skew in
      let near = near_before skew at rest point k.near in
      let next = longer (IsNearTo skew point) task point rest at near (near_after skew rest point timely) in
      let there = permitted_there k (IsNearTo skew point) next in
      (next_reading next.later at, (next.next there.0, timely_at_point skew rest point timely), there.1)

-- FROM A HOLD TO A CHECK

hold_told : (b : Bool) (v : Verdict) (made handle : KeyHandle) → reply.Holding handle ≡ (if b then hold_reply (held_by v made) else reply.Refused error.NoActor)
    → made ≡ handle
hold_told true (Allow kind generation) made handle e = cc
hold_told true (Deny why) made handle e = absurd (cc)
hold_told false v made handle e = absurd (cc)

-- a `hold` that is told a handle is told the one that its task takes
hold_taken : (job : Continued) (past : Past) (task key at : ℕ) (handle : KeyHandle) → IsReply job past (event (call.Hold task key at) (reply.Holding handle))
    → handle_on key (history task past) ≡ handle
hold_taken job past task key at handle h = hold_told (is_within task job.tasks) (rule_in past task key at) (handle_on key (history task past)) handle h.2

check_told : (b given strange kept : Bool) → reply.Continuous ≡ (if b then check_reply given strange kept else reply.Refused error.NoActor)
    → (b ≡ true) × (given ≡ true) × (strange ≡ false) × (kept ≡ true)
check_told true true false true e = (refl, refl, refl, refl)
check_told true true false false e = absurd (cc)
check_told true true true kept e = absurd (cc)
check_told true false strange kept e = absurd (cc)
check_told false given strange kept e = absurd (cc)

-- a handle that a task can have given is of this task
familiar_task : (s : SliceletState) (handle : KeyHandle) → is_strange s handle ≡ false → handle.task ≡ s.task
familiar_task s handle familiar = by_test (handle.task == s.task) refl familiar
  where
    by_test : (b : Bool) → b ≡ (handle.task == s.task)
        → (not b || nat_le handle.life s.resumed || nat_lt s.life handle.life
        || (handle.life == s.life && nat_lt s.count handle.position)) ≡ false
        → handle.task ≡ s.task
    by_test true e f = eqb-true handle.task s.task (sym e)
    by_test false e f = absurd (let g : true ≡ false = f in cc)

-- a `check` that finds a handle continuous is by the task of the handle
record IsFound (past : Past) (task at : ℕ) (handle : KeyHandle) : Type 0 where
  own : handle.task ≡ task
  continuous : IsContinuous (covers past handle.key) (task_calls task past) handle at

check_found : (job : Continued) (past : Past) (task at : ℕ) (handle : KeyHandle) → IsReply job past (event (call.Check task handle at) reply.Continuous)
    → IsFound past task at handle
check_found job past task at handle h =
    let told = check_told (is_within task job.tasks) (knows_handle job.forgotten past handle) (is_strange (history task past) handle) h.0 h.2 in
    record { own = familiar_task (history task past) handle told.2; continuous = (h.1 told.0 told.1 told.2).0 told.3 }

module _ (job : Continued) (task by key from at : ℕ) (handle : KeyHandle) (between before : Past) where
  abbrev made : Past
  made = event (call.Hold by key from) (reply.Holding handle) ∷ before

  abbrev found : Past
  found = event (call.Check task handle at) reply.Continuous ∷ (between ++ made)

  kept : IsRun job found → IsTimely job.policy.skew (readings found) → IsKept job found before task at handle
  kept run timely =
      let taken = hold_taken job before by key from handle (run_before job between made run.1).0 in
      let f = check_found job (between ++ made) task at handle run.0 in
      let own : by ≡ task = ap (λ (h : KeyHandle). h.task) taken ∙ f.own in
      record {
        life = sym (ap (λ (h : KeyHandle). h.life) taken) ∙ ap (λ (n : ℕ). life_of (task_calls n before)) own;
        position = sym (ap (λ (h : KeyHandle). h.position) taken) ∙ ap (λ (n : ℕ). count_of (task_calls n before)) own;
        continuous = f.continuous;
        near = (tt, timely.0);
      }

module _ (job : Continued) (run past : Past) (task : ℕ) (handle : KeyHandle) (held : IsWhileHeld run past task handle) where
  whole : run ≡ held.later ++ (held.rest ++ past)
  whole = held.whole ∙ ap (λ (p : Past). held.later ++ p) held.up_to_check

  run_to_check : IsRun job run → IsRun job (held.rest ++ past)
  run_to_check is_run = run_before job held.later (held.rest ++ past) (subst (IsRun job) whole is_run)

  pub run_at_point : IsRun job run → IsRun job past
  run_at_point is_run = run_before job held.rest past (run_to_check is_run)

  -- the run up to the `check`, with the `hold` and the `check` as they were told
  abbrev as_told : Past
  as_told = found job task held.holds.task held.holds.key held.holds.at held.checks.at handle held.between held.before

  same_run : as_told ≡ held.rest ++ (held.since ++ held.before)
  same_run =
      sym (ap (λ (c : Event). c ∷ (held.between ++ held.hold ∷ held.before)) held.checks.is
      ∙ ap (λ (e : Event). event (call.Check task handle held.checks.at) reply.Continuous ∷ (held.between ++ e ∷ held.before)) held.holds.is)
      ∙ (held.up_to_check ∙ ap (λ (p : Past). held.rest ++ p) held.from_hold)

  pub serves_between : HasLaws job → IsRun job run → IsTimely job.policy.skew (readings run) → MayServe (job_in job) past task handle.key
  serves_between laws is_run timely =
      let skew = job.policy.skew in
      let h = held.holds in
      let to_check = subst (λ (p : Past). IsRun job (held.rest ++ p)) held.from_hold (run_to_check is_run) in
      let in_time = timely_at_point skew held.later (held.rest ++ past) (subst (λ (p : Past). IsTimely skew (readings p)) whole timely) in
      let on_time = subst (λ (p : Past). IsTimely skew (readings (held.rest ++ p))) held.from_hold in_time in
      let k = kept job task h.task h.key h.at held.checks.at handle held.between held.before
      (subst (IsRun job) (sym same_run) to_check) (subst (λ (p : Past). IsTimely skew (readings p)) (sym same_run) on_time) in
      let there = subst (λ (p : Past). IsKept job p held.before task held.checks.at handle) same_run k in
      subst (λ (p : Past). MayServe (job_in job) p task handle.key) (sym held.from_hold)
      (serves_there job laws held.rest held.since held.before task held.checks.at handle to_check there on_time)
