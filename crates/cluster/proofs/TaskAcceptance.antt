-- Each task accepts the calls that it was told of.
use Rattle.std.proofs.Common.{ℕ, List, [], ◌∷◌, sym, subst, inl, inr}
use Rattle.grants.specs.declared.slicelet_call.SliceletCall.{SliceletCall}
use Rattle.slicelet.specs.Accepted.{AreAccepted}
use Rattle.cluster.specs.continued.Jobs.{Continued}
use Rattle.cluster.specs.Pasts.{Event, Past, task_calls, history}
use Rattle.cluster.specs.continued.Runs.{IsReply, IsRun}
use Rattle.cluster.proofs.Taking.{task_taken, step_unrefused}
use Rattle.cluster.proofs.Adding.{adds_to_task}

pub accepted_calls : (job : Continued) (past : Past) (task : ℕ) → IsRun job past → AreAccepted task (task_calls task past)
accepted_calls job [] task run = tt
accepted_calls job (e ∷ past) task run =
    let before = accepted_calls job past task run.1 in
    elim (adds_to_task task past e) [
      | inl same ↦ subst (λ (calls : List SliceletCall). AreAccepted task calls) (sym same) before
      | inr new ↦ (
          let t = task_taken job past task new.made new.told (subst (λ (x : Event). IsReply job past x) new.is run.0) new.accepted in
          subst (λ (calls : List SliceletCall). AreAccepted task calls) (sym new.added) (step_unrefused (history task past) new.made t.left t.taken, before))
    ]
