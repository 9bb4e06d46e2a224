-- Lives along a run.
use Rattle.std.proofs.Common.{◌≡◌, ℕ, ◌≤◌, List, [], ◌∷◌, ◌++◌, sym, ap, subst, inl, inr, arith}
use Rattle.grants.specs.declared.slicelet_call.SliceletCall.{SliceletCall}
use Rattle.slicelet.specs.Calls.{life_of}
use Rattle.slicelet.specs.Accepted.{AreAccepted}
use Rattle.job_calls.specs.Jobs.{Job}
use Rattle.cluster.specs.Pasts.{Event, Past, task_calls}
use Rattle.cluster.specs.Runs.{IsRun}
use Rattle.cluster.proofs.Adding.{adds_to_task}
use Rattle.job_fence.specs.Requests.{Request, Serves, ServesInTurn}
use Rattle.job_fence.proofs.Points.{parts_of}

-- what the laws below say of the lives of a task
pub record HasLifeLaws (job : Job) : Type 0 where
  pub told : (past : Past) (task : ℕ) → IsRun job past → AreAccepted task (task_calls task past)
  pub later : (task : ℕ) (more h : List SliceletCall) → AreAccepted task (more ++ h) → life_of h ≤ life_of (more ++ h)

module _ (job : Job) (laws : HasLifeLaws job) where
  pub life_later : (e : Event) (past : Past) (task : ℕ) → IsRun job (e ∷ past) → life_of (task_calls task past) ≤ life_of (task_calls task (e ∷ past))
  life_later e past task run =
      let old = task_calls task past in
      elim (adds_to_task task past e) [
        | inl same ↦ subst (λ (calls : List SliceletCall). life_of old ≤ life_of calls) (sym same) (omega arith)
        | inr new ↦ (
            let accepted = subst (AreAccepted task) new.added (laws.told (e ∷ past) task run) in
            subst (λ (calls : List SliceletCall). life_of old ≤ life_of calls) (sym new.added) (laws.later task (new.made ∷ []) old accepted))
      ]

  pub served_life : (epoch : ℕ) (run : Past) (r : Request) → IsRun job run → Serves job epoch run r → r.token.life ≤ life_of (task_calls r.task run)
  served_life epoch [] r run s = absurd s
  served_life epoch (e ∷ past) r run (inl s) =
      let is = (parts_of job epoch past e r s).of_life in
      let more = life_later e past r.task run in
      omega (arith, is, more)
  served_life epoch (e ∷ past) r run (inr s) =
      let before = served_life epoch past r run.1 s in
      let more = life_later e past r.task run in
      omega (arith, before, more)

  pub lives : (epoch : ℕ) (run : Past) (first second : Request) → IsRun job run → ServesInTurn job epoch run first second → first.task ≡ second.task
      → first.token.life ≤ second.token.life
  lives epoch [] first second run turn same = absurd turn
  lives epoch (e ∷ past) first second run (inl both) same =
      let before = served_life epoch past first run.1 both.1 in
      let now : second.token.life ≡ life_of (task_calls second.task past) = (parts_of job epoch past e second both.0).of_life in
      let there = ap (λ (t : ℕ). life_of (task_calls t past)) same in
      omega (arith, before, now, there)
  lives epoch (e ∷ past) first second run (inr turn) same = lives epoch past first second run.1 turn same

-- all requests that a run served are of its epoch
pub served_epoch : (job : Job) (epoch : ℕ) (run : Past) (r : Request) → Serves job epoch run r → r.token.epoch ≡ epoch
served_epoch job epoch [] r s = absurd s
served_epoch job epoch (e ∷ past) r (inl s) = (parts_of job epoch past e r s).of_epoch
served_epoch job epoch (e ∷ past) r (inr s) = served_epoch job epoch past r s

pub turn_epochs : (job : Job) (epoch : ℕ) (run : Past) (first second : Request) → ServesInTurn job epoch run first second
    → (first.token.epoch ≡ epoch) × (second.token.epoch ≡ epoch)
turn_epochs job epoch [] first second turn = absurd turn
turn_epochs job epoch (e ∷ past) first second (inl both) = (served_epoch job epoch past first both.1, (parts_of job epoch past e second both.0).of_epoch)
turn_epochs job epoch (e ∷ past) first second (inr turn) = turn_epochs job epoch past first second turn
