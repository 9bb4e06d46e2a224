-- A call that delivers what has a number.
use Rattle.std.proofs.Common.{◌≡◌, ℕ, ◌≤◌, Bool, true, false, List, not, refl, sym, ◌∙◌, ap, subst, length}
use Rattle.std.specs.Prelude.{Option, Some, None, Result, Ok, Err, IfErr, option_map, if◌then◌else◌}
use Rattle.std.specs.declared.alloc.AllocError.{AllocError}
use Rattle.machines.specs.Numbers.{is_within}
use Rattle.machines.specs.declared.machine.Trouble.{Trouble}
use Rattle.machines.specs.declared.machine.Trouble.TheVariants.{NoMemory}
use Rattle.assignment.specs.Slices.{Slicing}
use Rattle.assignment.specs.Equality.{slicing_equivalence}
use Rattle.grants.specs.Policies.{Terms}
use Rattle.lease_table.specs.Calls.{AnsweredTableCall}
use Rattle.lease_table.specs.Runs.{commits_in, IsRun as IsTableRun}
use Rattle.lease_table.specs.Generations.{assignment_in, published_in}
use Rattle.clerk.specs.declared.call.ClerkCall.TheVariants.{Learn}
use Rattle.clerk.specs.declared.call.ClerkReply.{ClerkReply}
use Rattle.clerk.specs.declared.error.ClerkError.{ClerkError}
use Rattle.clerk.specs.Memory.{takes_memory as clerk_takes_memory}
use Rattle.machines.specs.Refusals.{when}
use Rattle.grants.specs.declared.values.Grant.{Grant}
use Rattle.grants.specs.declared.slicelet_call.SliceletCall.TheVariants.{Hear}
use Rattle.grants.specs.declared.slicelet_call.SliceletReply.{SliceletReply}
use Rattle.grants.specs.declared.slicelet_error.SliceletError.{SliceletError}
use Rattle.cluster.specs.continued.Jobs.{Continued, Forgotten}
use Rattle.job_calls.specs.declared.call.ClusterCall.TheVariants as asked
use Rattle.job_calls.specs.declared.error.ClusterError.TheVariants as error
use Rattle.job_calls.specs.declared.reply.ClusterReply.{ClusterReply}
use Rattle.job_calls.specs.declared.reply.ClusterReply.TheVariants as reply
use Rattle.cluster.specs.declared.cluster.Cluster.{Cluster}
use Rattle.cluster.specs.Pasts.{Past, table_calls, grants, published}
use Rattle.cluster.specs.Made.{is_sent, is_published, is_published_as}
use Rattle.cluster.specs.continued.Deliveries.{knows_grant, knows_slicing, known_grant, known_slicing, task_refusal, clerk_refusal}
use Rattle.cluster.specs.Answers.{by_actor}
use Rattle.cluster.specs.TakingMemory.{task_takes_memory}
use Rattle.cluster.specs.continued.Clusters.{LeadsTo, IsPlayed, IsPlayedOr}
use Rattle.cluster.specs.Numbers.{with_number}
use Rattle.cluster.proofs.Finding.{numbered_sent}
use Rattle.cluster.proofs.Publishing.{known_generation}
use Rattle.cluster.proofs.Stopping.{call_of_none, clerk_of_none, few_tasks, few_clerks}
use Rattle.cluster.proofs.TaskTurns.{by_own, by_none}

none_told : (told answer : ClusterReply) → answer ≡ told → (let r : Result ClusterReply AllocError = Ok told in r) ≡ Ok answer
none_told told answer e = ap (λ (x : ClusterReply). let r : Result ClusterReply AllocError = Ok x in r) (sym e)

module _ (job : Continued) (past : Past) (cluster : Cluster) (k : LeadsTo job past cluster) where
  pub hear_of_none : (task at : ℕ) (o : Option Grant) → is_within task (length cluster.tasks.items) ≡ false
      → IsPlayedOr job past (option_map (λ grant. asked.Task task (Hear grant at)) o) (by_actor task job.tasks (reply.Refused error.NotSent)) (Ok (reply.Refused error.NoActor)) cluster
  hear_of_none task at None e = (none_told _ _ (by_none task job.tasks _ (few_tasks job past cluster k task e)), k)
  hear_of_none task at (Some grant) e = call_of_none job past cluster k task (Hear grant at) e

  pub hear_unsent : (task at : ℕ) (o : Option Grant) → is_within task job.tasks ≡ true → None ≡ o
      → IsPlayedOr job past (option_map (λ grant. asked.Task task (Hear grant at)) o) (by_actor task job.tasks (reply.Refused error.NotSent)) (Ok (reply.Refused error.NotSent)) cluster
  hear_unsent task at None own e = (none_told _ _ (by_own task job.tasks _ own), k)
  hear_unsent task at (Some grant) own e = absurd (cc)

  pub learn_of_none : (clerk : ℕ) (o : Option Slicing) → is_within clerk (length cluster.clerks.items) ≡ false
      → IsPlayedOr job past (option_map (λ slicing. asked.Clerk clerk (Learn slicing)) o) (by_actor clerk job.clerks (reply.Refused error.NotSent)) (Ok (reply.Refused error.NoActor)) cluster
  learn_of_none clerk None e = (none_told _ _ (by_none clerk job.clerks _ (few_clerks job past cluster k clerk e)), k)
  learn_of_none clerk (Some slicing) e = clerk_of_none job past cluster k clerk (Learn slicing) e

  pub learn_unpublished : (clerk : ℕ) (o : Option Slicing) → is_within clerk job.clerks ≡ true → None ≡ o
      → IsPlayedOr job past (option_map (λ slicing. asked.Clerk clerk (Learn slicing)) o) (by_actor clerk job.clerks (reply.Refused error.NotSent)) (Ok (reply.Refused error.NotSent)) cluster
  learn_unpublished clerk None own e = (none_told _ _ (by_own clerk job.clerks _ own), k)
  learn_unpublished clerk (Some slicing) own e = absurd (cc)

-- what was made is no reason to refuse
unrefused : {E : Type 0} (b : Bool) (why : E) → b ≡ true → when (not b) why ≡ None
unrefused true why e = refl
unrefused false why e = absurd (cc)

pub sent_comes : (forgotten : Forgotten) (past : Past) (number : ℕ) (grant : Grant) (at : ℕ) → ((n : ℕ) (g : Grant) → with_number n (grants past) ≡ Some g → g.number ≡ n)
    → known_grant forgotten past number ≡ Some grant → task_refusal forgotten past (Hear grant at) ≡ None
sent_comes forgotten past number grant at own e = by_test (forgotten.grant past number) refl e
  where
    by_test : (b : Bool) → forgotten.grant past number ≡ b → (if b then None else with_number number (grants past)) ≡ Some grant → task_refusal forgotten past (Hear grant at) ≡ None
    by_test true is e = absurd (cc)
    by_test false is e =
        let known : forgotten.grant past grant.number ≡ false = ap (forgotten.grant past) (own number grant e) ∙ is in
        unrefused (knows_grant forgotten past grant) error.NotSent
        (ap (λ (b : Bool). if b then false else is_sent past grant) known ∙ numbered_sent (grants past) number grant e)

-- a grant that has the number is heard
pub hear_played : (job : Continued) (past : Past) (task at : ℕ) (grant : Grant) (o : Option Grant) (none : ClusterReply) (result : Result ClusterReply AllocError) (new : Cluster) → Some grant ≡ o
    → IsPlayed job past (asked.Task task (Hear grant at)) result new → IsPlayedOr job past (option_map (λ grant. asked.Task task (Hear grant at)) o) none result new
hear_played job past task at grant o none result new e played =
    subst (λ (o : Option Grant). IsPlayedOr job past (option_map (λ grant. asked.Task task (Hear grant at)) o) none result new) e played

-- to hear takes memory
pub hear_takes : (grant : Grant) (at : ℕ) (answer : Result SliceletReply (Trouble SliceletError)) → IfErr answer (λ trouble. trouble ≡ NoMemory → task_takes_memory (Hear grant at) ≡ true)
hear_takes grant at (Ok told) = tt
hear_takes grant at (Err trouble) = λ e. refl

-- a published assignment comes to a clerk
pub published_comes : (job : Continued) (past : Past) (generation : ℕ) (slicing : Slicing) → IsTableRun job.policy (table_calls past)
    → ((calls : List AnsweredTableCall) (generation : ℕ) → generation ≤ commits_in calls → assignment_in generation calls ≡ published_in generation calls)
    → ((policy : Terms) (calls : List AnsweredTableCall) (generation : ℕ) (slicing : Slicing) → IsTableRun policy calls → assignment_in generation calls ≡ Some slicing → slicing.generation ≡ generation)
    → known_slicing job.forgotten past generation ≡ Some slicing → clerk_refusal job.forgotten past (Learn slicing) ≡ None
published_comes job past generation slicing run known named e = by_test (job.forgotten.generation past generation) refl e
  where
    by_test : (b : Bool) → job.forgotten.generation past generation ≡ b → (if b then None else published generation past) ≡ Some slicing
        → clerk_refusal job.forgotten past (Learn slicing) ≡ None
    by_test true is e = absurd (cc)
    by_test false is e =
        let calls = table_calls past in
        let same : slicing.generation ≡ generation = named job.policy calls generation slicing run (known calls generation (known_generation job.policy calls run generation slicing e) ∙ e) in
        let kept : job.forgotten.generation past slicing.generation ≡ false = ap (job.forgotten.generation past) same ∙ is in
        unrefused (knows_slicing job.forgotten past slicing) error.NotSent
        (ap (λ (b : Bool). if b then false else is_published past slicing) kept
        ∙ (ap (λ (n : ℕ). is_published_as slicing (published n past)) same ∙ (ap (is_published_as slicing) e ∙ slicing_equivalence.refl slicing)))

-- it is learnt
pub learn_played : (job : Continued) (past : Past) (clerk : ℕ) (slicing : Slicing) (o : Option Slicing) (none : ClusterReply) (result : Result ClusterReply AllocError) (new : Cluster) → Some slicing ≡ o
    → IsPlayed job past (asked.Clerk clerk (Learn slicing)) result new → IsPlayedOr job past (option_map (λ slicing. asked.Clerk clerk (Learn slicing)) o) none result new
learn_played job past clerk slicing o none result new e played =
    subst (λ (o : Option Slicing). IsPlayedOr job past (option_map (λ slicing. asked.Clerk clerk (Learn slicing)) o) none result new) e played

-- to learn takes memory
pub learn_takes : (slicing : Slicing) (answer : Result ClerkReply (Trouble ClerkError)) → IfErr answer (λ trouble. trouble ≡ NoMemory → clerk_takes_memory (Learn slicing) ≡ true)
learn_takes slicing (Ok told) = tt
learn_takes slicing (Err trouble) = λ e. refl
