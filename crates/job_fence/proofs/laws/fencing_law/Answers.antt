use Rattle.std.proofs.Common.{◌≡◌, ℕ, ◌≤◌, true, List, [], ◌∷◌, refl, sym, ◌∙◌, subst, inl, inr, arith}
use Rattle.std.proofs.lemmas.Bool.Decides.{nat_tests}
use Rattle.grants.specs.Assignments.{slices_of}
use Rattle.grants.specs.Policies.{Terms, is_policy}
use Rattle.lease_table.specs.Calls.{AnsweredTableCall}
use Rattle.lease_table.specs.Generations.{assignment_in, newest_generation}
use Rattle.lease_table.proofs.FewOwners.{few_committed}
use Rattle.job_calls.specs.Jobs.{Job}
use Rattle.cluster.specs.Pasts.{Past, table_calls, task_calls}
use Rattle.cluster.proofs.TableRuns.{table_calls_extend}
use Rattle.job_fence.specs.Requests.{Request, Serves, ServesInTurn}
use Rattle.job_fence.proofs.Points.{HasLaws}
use Rattle.job_fence.proofs.Reaching.{HasLeaseLaws}
use Rattle.job_fence.proofs.Owners.{OneOwner, served_single, same_owner}
use Rattle.job_fence.proofs.Rising.{rising, close}
use Rattle.job_fence.proofs.Lives.{HasLifeLaws, lives, served_epoch, turn_epochs}
use Rattle.job_fence.proofs.Steady.{HasTableLaws, steady}
use Rattle.job_fence.proofs.Writing.{no_later_by}
use Rattle.job_fence.proofs.laws.fencing_law.Goals as goal

laws_below : (c : goal.After-one_owner_law) (job : Job) → is_policy job.policy ≡ true → HasLaws job
laws_below c job within = record {
  covering = c.covering_lease_law.ensures.allowed;
  sent = λ past task kind grant run held. c.sent_law.ensures.held job past task kind grant run held;
  own = λ past task kind grant run held. c.sent_law.ensures.own job past task kind grant run held;
  newest = λ past grant run sent. c.leases_law.ensures.generation job.policy (table_calls past) grant within (c.told_law.ensures.table job past run) sent;
  bridge = λ past grant run sent next. c.leases_law.ensures.bridge job.policy (table_calls past) grant within (c.told_law.ensures.table job past run) sent next;
  stays = λ e past generation run low. c.known_generations_law.ensures job (e ∷ []) past generation run low;
  grows = λ e past.
      let longer = table_calls_extend (e ∷ []) past in
      subst (λ (calls : List AnsweredTableCall). newest_generation (table_calls past) ≤ newest_generation calls) (sym longer.1)
      (c.generations_law.ensures.grows longer.0 (table_calls past));
}

lease_laws : (c : goal.After-one_owner_law) (job : Job) → is_policy job.policy ≡ true → HasLeaseLaws job
lease_laws c job within = record {
  spent = λ past task run. c.held_law.ensures task (task_calls task past) (c.told_law.ensures.tasks job past task run);
  reached = λ past task key at kind generation run timely allowed. c.reached_law.ensures job past task key at kind generation within run timely allowed;
}

single_of : (policy : Terms) → is_policy policy ≡ true → policy.high ≤ 1 → policy.high ≡ 1
single_of policy within low = grind (arith, nat_tests)

alone : (c : goal.After-one_owner_law) (job : Job) → job.policy.high ≡ 1 → OneOwner job
alone c job single run generation key a b is_run mine theirs =
    let known = assignment_in generation (table_calls run) in
    let few = c.assignments_law.ensures.few job.policy (table_calls run) generation (c.told_law.ensures.table job run is_run) in
    c.one_owner_law.ensures (slices_of known) key a b (few_committed job.policy known known single refl few) mine theirs

life_laws : (c : goal.After-one_owner_law) (job : Job) → HasLifeLaws job
life_laws c job = record { told = λ past task run. c.told_law.ensures.tasks job past task run; later = c.lives_law.ensures.later }

table_laws : (c : goal.After-one_owner_law) (job : Job) → is_policy job.policy ≡ true → HasTableLaws job
table_laws c job within = record {
  run = λ past run. c.told_law.ensures.table job past run;
  ordered = λ past run a b sent also low. c.order_law.ensures.grants job past a b within run sent also low;
}

alone_in : (c : goal.After-one_owner_law) (job : Job) → is_policy job.policy ≡ true → (epoch : ℕ) (run : Past) (r : Request) → Serves job epoch run r → OneOwner job
alone_in c job within epoch run r served = alone c job (single_of job.policy within (served_single job (laws_below c job within) epoch run r served))

first_of_turn : (job : Job) (epoch : ℕ) (run : Past) (first second : Request) → ServesInTurn job epoch run first second → Serves job epoch run first
first_of_turn job epoch [] first second turn = absurd turn
first_of_turn job epoch (e ∷ past) first second (inl both) = inr both.1
first_of_turn job epoch (e ∷ past) first second (inr turn) = inr (first_of_turn job epoch past first second turn)

pub returns-clause-same : goal.returns-clause-same
returns-clause-same c = λ job epoch run one other within is_run served also same_key same_generation.
    same_owner job (laws_below c job within) (alone_in c job within epoch run one served) epoch run one other is_run served also same_key same_generation

pub returns-clause-rising : goal.returns-clause-rising
returns-clause-rising c = λ job epoch run first second within is_run timely turn same_key others.
    rising job (laws_below c job within) (lease_laws c job within) epoch (alone_in c job within epoch run first (first_of_turn job epoch run first second turn)) run first second
    is_run timely turn same_key others

pub returns-clause-steady : goal.returns-clause-steady
returns-clause-steady c = λ job epoch run first second within is_run timely careful turn same_key same_task.
    let generations = steady job (laws_below c job within) (lease_laws c job within) (life_laws c job) (table_laws c job within) epoch run first second is_run timely careful turn same_key same_task in
    let lives = lives job (life_laws c job) epoch run first second is_run turn same_task in
    let epochs = turn_epochs job epoch run first second turn in
    inr (epochs.0 ∙ sym epochs.1, no_later_by first.token second.token generations lives)

pub returns-clause-close : goal.returns-clause-close
returns-clause-close c = λ job epoch run first second within is_run timely turn.
    close job (laws_below c job within) (lease_laws c job within) epoch run first second is_run timely turn

pub returns-clause-lives : goal.returns-clause-lives
returns-clause-lives c = λ job epoch run first second is_run turn same. lives job (life_laws c job) epoch run first second is_run turn same

pub returns-clause-epochs : goal.returns-clause-epochs
returns-clause-epochs c = λ job epoch run r served. served_epoch job epoch run r served
