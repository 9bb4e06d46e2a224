-- A call that does not come to its actor.
use Rattle.std.proofs.Common.{◌≡◌, ℕ, Bool, true, false, length, sym, ◌∙◌, ap, subst}
use Rattle.std.specs.Prelude.{Option, Some, Ok}
use Rattle.machines.specs.Numbers.{is_within}
use Rattle.grants.specs.declared.table_call.TableCall.{TableCall}
use Rattle.lease_table.specs.Calls.{table_step}
use Rattle.key_handle.specs.declared.handle.KeyHandle.{KeyHandle}
use Rattle.grants.specs.declared.slicelet_call.SliceletCall.{SliceletCall}
use Rattle.slicelet.specs.Steps.{slicelet_step}
use Rattle.slicelet.specs.Continuity.{is_strange}
use Rattle.clerk.specs.Calls.{clerk_step}
use Rattle.clerk.specs.declared.call.ClerkCall.{ClerkCall}
use Rattle.cluster.specs.continued.Jobs.{Continued}
use Rattle.job_calls.specs.declared.error.ClusterError.{ClusterError}
use Rattle.job_calls.specs.declared.error.ClusterError.TheVariants as error
use Rattle.job_calls.specs.declared.call.ClusterCall.TheVariants as call
use Rattle.job_calls.specs.declared.reply.ClusterReply.TheVariants as reply
use Rattle.cluster.specs.declared.cluster.Cluster.{Cluster}
use Rattle.cluster.specs.Pasts.{Past, standing, history, newest_learnt}
use Rattle.cluster.specs.continued.Deliveries.{knows_handle, table_refusal, task_refusal, clerk_refusal}
use Rattle.cluster.specs.Answers.{unless, check_reply, from_machine}
use Rattle.cluster.specs.continued.Clusters.{LeadsTo, IsPlayed}
use Rattle.cluster.proofs.Playing.{stopped}
use Rattle.cluster.proofs.TaskTurns.{by_own, by_none}

module _ (job : Continued) (past : Past) (cluster : Cluster) (k : LeadsTo job past cluster) where
  pub few_tasks : (task : ℕ) → is_within task (length cluster.tasks.items) ≡ false → is_within task job.tasks ≡ false
  unfolding LeadsTo
  few_tasks task e = subst (λ (n : ℕ). is_within task n ≡ false) k.tasks.0 e

  pub few_clerks : (clerk : ℕ) → is_within clerk (length cluster.clerks.items) ≡ false → is_within clerk job.clerks ≡ false
  unfolding LeadsTo
  few_clerks clerk e = subst (λ (n : ℕ). is_within clerk n ≡ false) k.clerks.0 e

  pub call_of_none : (task : ℕ) (c : SliceletCall) → is_within task (length cluster.tasks.items) ≡ false → IsPlayed job past (call.Task task c) (Ok (reply.Refused error.NoActor)) cluster
  call_of_none task c e = stopped job past (call.Task task c) error.NoActor cluster k (λ kept. by_none task job.tasks _ (few_tasks task e)) tt

  pub serve_of_none : (task key at : ℕ) → is_within task (length cluster.tasks.items) ≡ false → IsPlayed job past (call.Serve task key at) (Ok (reply.Refused error.NoActor)) cluster
  serve_of_none task key at e = stopped job past (call.Serve task key at) error.NoActor cluster k (λ kept. by_none task job.tasks _ (few_tasks task e)) tt

  pub hold_of_none : (task key at : ℕ) → is_within task (length cluster.tasks.items) ≡ false → IsPlayed job past (call.Hold task key at) (Ok (reply.Refused error.NoActor)) cluster
  hold_of_none task key at e = stopped job past (call.Hold task key at) error.NoActor cluster k (λ kept. by_none task job.tasks _ (few_tasks task e)) tt

  pub check_of_none : (task : ℕ) (handle : KeyHandle) (at : ℕ) → is_within task (length cluster.tasks.items) ≡ false
      → IsPlayed job past (call.Check task handle at) (Ok (reply.Refused error.NoActor)) cluster
  check_of_none task handle at e =
      stopped job past (call.Check task handle at) error.NoActor cluster k (λ kept. by_none task job.tasks _ (few_tasks task e))
      (λ within made known. absurd (let f : true ≡ false = sym within ∙ few_tasks task e in cc))

  pub clerk_of_none : (clerk : ℕ) (c : ClerkCall) → is_within clerk (length cluster.clerks.items) ≡ false → IsPlayed job past (call.Clerk clerk c) (Ok (reply.Refused error.NoActor)) cluster
  clerk_of_none clerk c e = stopped job past (call.Clerk clerk c) error.NoActor cluster k (λ kept. by_none clerk job.clerks _ (few_clerks clerk e)) tt

  pub look_of_none : (clerk key : ℕ) → is_within clerk (length cluster.clerks.items) ≡ false → IsPlayed job past (call.Look clerk key) (Ok (reply.Refused error.NoActor)) cluster
  look_of_none clerk key e = stopped job past (call.Look clerk key) error.NoActor cluster k (λ kept. by_none clerk job.clerks _ (few_clerks clerk e)) tt

  pub table_stopped : (c : TableCall) (why : ClusterError) → Some why ≡ table_refusal job past c → IsPlayed job past (call.Table c) (Ok (reply.Refused why)) cluster
  table_stopped c why e =
      stopped job past (call.Table c) why cluster k (λ kept. ap (λ (o : Option ClusterError). unless o (from_machine error.Table reply.Table (table_step (standing job.policy past) c))) (sym e)) tt

  pub task_stopped : (task : ℕ) (c : SliceletCall) (why : ClusterError) → is_within task job.tasks ≡ true → Some why ≡ task_refusal job.forgotten past c
      → IsPlayed job past (call.Task task c) (Ok (reply.Refused why)) cluster
  task_stopped task c why own e =
      stopped job past (call.Task task c) why cluster k (λ kept. by_own task job.tasks _ own
      ∙ ap (λ (o : Option ClusterError). unless o (from_machine error.Slicelet reply.Task (slicelet_step (history task past) c))) (sym e)) tt

  pub clerk_stopped : (clerk : ℕ) (c : ClerkCall) (why : ClusterError) → is_within clerk job.clerks ≡ true → Some why ≡ clerk_refusal job.forgotten past c
      → IsPlayed job past (call.Clerk clerk c) (Ok (reply.Refused why)) cluster
  clerk_stopped clerk c why own e =
      stopped job past (call.Clerk clerk c) why cluster k (λ kept. by_own clerk job.clerks _ own
      ∙ ap (λ (o : Option ClusterError). unless o (from_machine error.Clerk reply.Clerk (clerk_step (newest_learnt clerk past) c))) (sym e)) tt

  pub not_given : (task : ℕ) (handle : KeyHandle) (at : ℕ) → is_within task job.tasks ≡ true → knows_handle job.forgotten past handle ≡ false
      → IsPlayed job past (call.Check task handle at) (Ok (reply.Refused error.NotSent)) cluster
  not_given task handle at own e =
      stopped job past (call.Check task handle at) error.NotSent cluster k (λ kept. by_own task job.tasks _ own ∙ ap (λ (b : Bool). check_reply b (is_strange (history task past) handle) kept) e)
      (λ within made known. absurd (let f : true ≡ false = sym made ∙ e in cc))
