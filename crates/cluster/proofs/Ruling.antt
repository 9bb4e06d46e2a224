-- What a `serve`, a `hold` and a `check` are answered, and that the ends of a run are runs.
use Rattle.std.proofs.Common.{◌≡◌, ℕ, Bool, true, false, [], ◌∷◌, ◌++◌, refl, ◌∙◌, ap}
use Rattle.std.specs.Prelude.{IsTrue, ◌↔◌, if◌then◌else◌}
use Rattle.key_handle.specs.declared.handle.KeyHandle.{KeyHandle}
use Rattle.machines.specs.Numbers.{is_within}
use Rattle.slicelet.specs.Continuity.{handle_on, held_by, IsContinuous, is_strange}
use Rattle.cluster.specs.continued.Jobs.{Continued, job_in}
use Rattle.job_calls.specs.declared.error.ClusterError.TheVariants as error
use Rattle.job_calls.specs.declared.call.ClusterCall.TheVariants as call
use Rattle.job_calls.specs.declared.reply.ClusterReply.{ClusterReply}
use Rattle.job_calls.specs.declared.reply.ClusterReply.TheVariants as reply
use Rattle.cluster.specs.Pasts.{event, Past, task_calls, history}
use Rattle.cluster.specs.continued.Deliveries.{knows_handle}
use Rattle.cluster.specs.Answers.{covers, rule_in, hold_reply, check_reply}
use Rattle.cluster.specs.continued.Runs.{IsReply, IsRun}
use Rattle.cluster.specs.Promises.{IsServedByRule, IsHeldByRule, IsCheckedByHistory}

-- what came before a point of a run is a run
pub run_before : (job : Continued) (later past : Past) → IsRun job (later ++ past) → IsRun job past
run_before job [] past run = run
run_before job (e ∷ later) past run = run_before job later past run.1

-- an actor of the job answers
pub own_answer : (b : Bool) (answer : ClusterReply) → b ≡ true → (if b then answer else reply.Refused error.NoActor) ≡ answer
own_answer true answer e = refl
own_answer false answer e = absurd (let f : false ≡ true = e in cc)

pub served_by_rule : (job : Continued) (past : Past) (task key at : ℕ) (told : ClusterReply) → IsReply job past (event (call.Serve task key at) told)
    → IsServedByRule (job_in job) past task key at told
served_by_rule job past task key at told h inside = h.2 ∙ own_answer (is_within task job.tasks) (reply.Verdict (rule_in past task key at)) inside

pub held_by_rule : (job : Continued) (past : Past) (task key at : ℕ) (told : ClusterReply) → IsReply job past (event (call.Hold task key at) told)
    → IsHeldByRule (job_in job) past task key at told
held_by_rule job past task key at told h inside =
    h.2 ∙ own_answer (is_within task job.tasks) (hold_reply (held_by (rule_in past task key at) (handle_on key (history task past)))) inside

module _ (job : Continued) (past : Past) (task : ℕ) (handle : KeyHandle) (at : ℕ) where
  told_as : (told : ClusterReply) (kept : Bool) → (IsTrue kept ↔ IsContinuous (covers past handle.key) (task_calls task past) handle at)
      → told ≡ check_reply true false kept → IsCheckedByHistory past task handle at told
  told_as told true same e = record { continuous = (λ q. same.0 refl, λ k. e); broken = (λ q. absurd (cc), λ n. absurd (n (same.0 refl))) }
  told_as told false same e = record {
    continuous = (λ q. absurd (cc), λ k. absurd (let f : false ≡ true = same.1 k in cc));
    broken = (λ q k. (let f : false ≡ true = same.1 k in absurd (cc)), λ n. e);
  }

  pub checked_by_history : (told : ClusterReply) → IsReply job past (event (call.Check task handle at) told)
      → IsTrue (is_within task job.tasks) → knows_handle job.forgotten past handle ≡ true → is_strange (history task past) handle ≡ false
      → IsCheckedByHistory past task handle at told
  checked_by_history told h inside given familiar =
      told_as told h.0 (h.1 inside given familiar)
      (h.2 ∙ (own_answer (is_within task job.tasks) (check_reply (knows_handle job.forgotten past handle) (is_strange (history task past) handle) h.0) inside
      ∙ (ap (λ (b : Bool). check_reply b (is_strange (history task past) handle) h.0) given ∙ ap (λ (b : Bool). check_reply true b h.0) familiar)))
