-- What is kept of each task after one more call of the machines.
use Rattle.std.proofs.Common.{◌≡◌, ℕ, ◌+◌, ◌<◌, true, false, List, ◌∷◌, length, refl, sym, subst, ◌∙◌, ap, inl, inr, arith}
use Rattle.std.proofs.lemmas.Bool.Decides.{nat_tests}
use Rattle.std.specs.Prelude.{◌≢◌, ◌==◌, Result, Ok, Err, OnOk}
use Rattle.std.proofs.Math.ListN.{set}
use Rattle.machines.specs.Numbers.{is_within}
use Rattle.grants.specs.declared.slicelet_call.SliceletCall.{SliceletCall}
use Rattle.grants.specs.declared.slicelet_call.SliceletCall.TheVariants.{Start, Hear, Release, Resume}
use Rattle.slicelet.specs.Calls.{is_resume}
use Rattle.slicelet.specs.Accepted.{AreAccepted, StandsAfter}
use Rattle.slicelet.specs.States.{SliceletState}
use Rattle.job_calls.specs.declared.call.ClusterCall.{ClusterCall}
use Rattle.job_calls.specs.declared.call.ClusterCall.TheVariants as call
use Rattle.job_calls.specs.declared.reply.ClusterReply.{ClusterReply}
use Rattle.job_calls.specs.declared.reply.ClusterReply.TheVariants as reply
use Rattle.job_calls.specs.declared.error.ClusterError.{ClusterError}
use Rattle.cluster.specs.Pasts.{Past, Event, event, history, is_accepted, task_calls}
use Rattle.cluster.proofs.Adding.{AddsTaskCall, adds_to_task}
use Rattle.job_calls.specs.Jobs.{Job}
use Rattle.stretches.specs.Tasks.{AreOf}
use Rattle.stretches.proofs.Lists.{each_gives, each_set}

-- a call of a task changes nothing of another one
other_task : (past : Past) (task by : ℕ) (c : SliceletCall) (told : ClusterReply) → (by == task) ≡ false
    → task_calls task (event (call.Task by c) told ∷ past) ≡ task_calls task past
other_task past task by c told e = rw e refl

-- an accepted one is the last of its own
pub own_task : (past : Past) (task : ℕ) (c : SliceletCall) (told : ClusterReply) → is_accepted told ≡ true
    → task_calls task (event (call.Task task c) told ∷ past) ≡ c ∷ task_calls task past
own_task past task c told taken = let same : (task == task) ≡ true = grind (arith, nat_tests) in rw (same, taken) refl

module _ {A : Type 0} (holds : ℕ → List SliceletCall → A → Type 0) where
  kept_of : (before after : Past) (task : ℕ) (kept : A) → task_calls task after ≡ task_calls task before → holds task (task_calls task before) kept → holds task (task_calls task after) kept
  kept_of before after task kept same k = subst (λ (calls : List SliceletCall). holds task calls kept) (sym same) k

  -- where no task accepted anything, the same is kept
  pub kept_same : (job : Job) (before after : Past) (all : List A) → ((task : ℕ) → task_calls task after ≡ task_calls task before)
      → AreOf holds job before all → AreOf holds job after all
  kept_same job before after all same each =
      each_gives (λ task. holds task (task_calls task before)) (λ task. holds task (task_calls task after)) job.tasks all
      (λ i one inside kept. kept_of before after (i + 1) one (same (i + 1)) kept) each

  -- a call of no task of the job
  pub kept_strange : (job : Job) (past : Past) (by : ℕ) (c : SliceletCall) (told : ClusterReply) (all : List A)
      → ((i : ℕ) → i < job.tasks → (by == i + 1) ≡ false)
      → AreOf holds job past all → AreOf holds job (event (call.Task by c) told ∷ past) all
  kept_strange job past by c told all strange each =
      let after = event (call.Task by c) told ∷ past in
      each_gives (λ task. holds task (task_calls task past)) (λ task. holds task (task_calls task after)) job.tasks all
      (λ i one inside kept. kept_of past after (i + 1) one (other_task past (i + 1) by c told (strange i inside)) kept) each

  -- a call of a task of the job
  pub kept_set : (job : Job) (past : Past) (by place : ℕ) (c : SliceletCall) (told : ClusterReply) (all : List A) (new : A)
      → place + 1 ≡ by → place < length all → AreOf holds job past all → holds by (task_calls by (event (call.Task by c) told ∷ past)) new
      → AreOf holds job (event (call.Task by c) told ∷ past) (set all place new)
  kept_set job past by place c told all new number inside each kept =
      let after = event (call.Task by c) told ∷ past in
      each_set (λ task. holds task (task_calls task past)) job.tasks all each (λ task. holds task (task_calls task after)) place new inside
      (subst (λ (n : ℕ). holds n (task_calls n after) new) (sym number) kept)
      (λ i one other k. kept_of past after (i + 1) one (other_task past (i + 1) by c told (grind (arith, nat_tests, number, other))) k)

pub no_resume : (c : SliceletCall) → ((life : ℕ) → c ≢ Resume life) → is_resume c ≡ false
no_resume (Start life at) never = refl
no_resume (Hear grant at) never = refl
no_resume (Release kind at) never = refl
no_resume (Resume life) never = absurd (never life refl)

-- a task's slicelet stands after its calls
pub stands : (task : ℕ) (past : Past) (state : SliceletState) → state ≡ history task past → AreAccepted task (task_calls task past)
    → StandsAfter (task_calls task past) state
stands task past state e accepted =
    subst (λ (s : SliceletState). StandsAfter (task_calls task past) s) (sym e) (record { state = refl; accepted = accepted })

-- a call that no task takes
not_taken : (past : Past) (e : Event) (task : ℕ) → (AddsTaskCall task past e → ⊥) → task_calls task (e ∷ past) ≡ task_calls task past
not_taken past e task never = elim (adds_to_task task past e) [ inl same ↦ same | inr added ↦ absurd (never added) ]

pub none_refused : (past : Past) (c : ClusterCall) (told : ClusterReply) (why : ClusterError) → told ≡ reply.Refused why → (task : ℕ)
    → task_calls task (event c told ∷ past) ≡ task_calls task past
none_refused past c told why refused task = not_taken past (event c told) task
    (λ added. let same : told ≡ added.told = ap (λ (e : Event). e.reply) added.is in
    let taken : is_accepted told ≡ true = ap is_accepted same ∙ added.accepted in
    let not : is_accepted told ≡ false = ap is_accepted refused in
    let both : true ≡ false = sym taken ∙ not in cc)

pub none_called : (past : Past) (c : ClusterCall) (told : ClusterReply) → ((task : ℕ) (made : SliceletCall) → c ≢ call.Task task made) → (task : ℕ)
    → task_calls task (event c told ∷ past) ≡ task_calls task past
none_called past c told never task = not_taken past (event c told) task (λ added. never task added.made (ap (λ (e : Event). e.call) added.is))

pub accepted_if : (told : ClusterReply) → ((why : ClusterError) → told ≢ reply.Refused why) → is_accepted told ≡ true
accepted_if (reply.Refused why) never = absurd (never why refl)
accepted_if _ never = refl

-- a number that no actor has
pub not_within : (number many i : ℕ) → is_within number many ≡ false → i < many → (number == i + 1) ≡ false
not_within number many i strange inside = grind (arith, nat_tests, strange, inside)

pub when_ok : {T E P Q : Type 0} → (r : Result T E) → OnOk r P → (P → Q) → OnOk r Q
when_ok (Ok value) p gives = gives p
when_ok (Err why) p gives = tt

pub both_ok : {T E P Q R : Type 0} → (r : Result T E) → OnOk r P → OnOk r Q → (P → Q → R) → OnOk r R
both_ok (Ok value) p q gives = gives p q
both_ok (Err why) p q gives = tt
