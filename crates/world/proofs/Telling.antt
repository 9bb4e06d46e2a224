-- What a step is told says what its call was answered.
use Rattle.std.proofs.Common.{◌≡◌, ℕ, Bool, true, false, ◌∷◌, refl, ◌∙◌, ap, subst}
use Rattle.std.specs.Prelude.{Option, Some, None, Result, Ok, Err, reverse, if◌then◌else◌}
use Rattle.machines.specs.Numbers.{is_within}
use Rattle.machines.specs.Answers.{with_named_reply}
use Rattle.assignment.specs.declared.error.AssignmentError.{AssignmentError}
use Rattle.assignment.specs.Slices.{refusal_of}
use Rattle.grants.specs.declared.table_call.TableReply.TheVariants as table
use Rattle.grants.specs.declared.slicelet_call.SliceletCall.{SliceletCall}
use Rattle.grants.specs.declared.slicelet_call.SliceletCall.TheVariants.{Start, Hear, Release, Resume}
use Rattle.grants.specs.declared.slicelet_call.SliceletReply.{SliceletReply}
use Rattle.grants.specs.declared.slicelet_call.SliceletReply.TheVariants as slicelet
use Rattle.grants.specs.declared.slicelet_error.SliceletError.{SliceletError}
use Rattle.slicelet.specs.Continuity.{handle_on, held_by, is_strange}
use Rattle.slicelet.specs.Steps.{slicelet_step, start_step, hear_step, release_step}
use Rattle.clerk.specs.declared.call.ClerkReply.TheVariants as clerk
use Rattle.clerk.specs.Calls.{clerk_step}
use Rattle.clerk.specs.Steps.{look_at}
use Rattle.lease_table.specs.Calls.{table_step}
use Rattle.job_calls.specs.declared.call.ClusterCall.{ClusterCall}
use Rattle.job_calls.specs.declared.call.ClusterCall.TheVariants as call
use Rattle.job_calls.specs.declared.error.ClusterError.{ClusterError}
use Rattle.job_calls.specs.declared.error.ClusterError.TheVariants as error
use Rattle.job_calls.specs.declared.reply.ClusterReply.{ClusterReply}
use Rattle.job_calls.specs.declared.reply.ClusterReply.TheVariants as machine
use Rattle.cluster.specs.Numbers.{with_number}
use Rattle.cluster.specs.Pasts.{Event as ClusterEvent, event as cluster_event, Past as ClusterPast, is_accepted as is_accepted_call, grants, published, standing, history, newest_learnt}
use Rattle.cluster.specs.Deliveries.{notes_made, handles_made as handles_given, is_given, table_refusal, task_refusal, clerk_refusal}
use Rattle.cluster.specs.Replies.{by_actor, unless, from_machine, rule_in, hold_reply, check_reply, look_reply, reply_to as cluster_reply}
use Rattle.cluster.specs.Memory.{gives_handle as gives_handle_itself}
use Rattle.world.specs.Jobs.{Job}
use Rattle.world.specs.declared.step.Step.{Step}
use Rattle.world.specs.declared.step.Step.TheVariants as step
use Rattle.replies.specs.declared.reply.Reply.{Reply}
use Rattle.replies.specs.declared.reply.Refusal.{Refusal}
use Rattle.replies.specs.declared.reply.Refusal.TheVariants as refusal
use Rattle.replies.specs.declared.told.Named.{Named}
use Rattle.replies.specs.declared.told.NextNumbers.{NextNumbers}
use Rattle.world.specs.Pasts.{Past, is_accepted}
use Rattle.world.specs.Calls.{if_actor, if_sent, if_built, call_of, resumes, refused_by, answered, unless_out_of_memory, with_call}
use Rattle.replies.specs.Told.{refusal_by, term_reply, told_as}
use Rattle.world.specs.Replies.{named, next_numbers}
use Rattle.world.specs.Runs.{gives_handle}

-- WHAT IS TOLD OF A REPLY

-- what is told of a reply accepts its step where the reply accepts its call, gives a handle where the reply does, and is never out of memory
pub record IsFaithful (told : Reply) (r : ClusterReply) : Type 0 where
  pub accepts : is_accepted told ≡ is_accepted_call r
  pub gives : gives_handle told ≡ gives_handle_itself r
  pub calls : (e : ClusterEvent) (calls : ClusterPast) → unless_out_of_memory told e calls ≡ e ∷ calls

pub faithful : (n : Named) (next : NextNumbers) (r : ClusterReply) → IsFaithful (told_as n next r) r
faithful n next (machine.Table (table.Term term)) = by_kind n.renews
  where
    by_kind : (b : Bool) → IsFaithful (term_reply b term) (machine.Table (table.Term term))
    by_kind true = record { accepts = refl; gives = refl; calls = λ e calls. refl }
    by_kind false = record { accepts = refl; gives = refl; calls = λ e calls. refl }
faithful n next (machine.Table _) = record { accepts = refl; gives = refl; calls = λ e calls. refl }
faithful n next (machine.Task slicelet.Started) = record { accepts = refl; gives = refl; calls = λ e calls. refl }
faithful n next (machine.Task slicelet.Heard) = record { accepts = refl; gives = refl; calls = λ e calls. refl }
faithful n next (machine.Task (slicelet.Released note)) = record { accepts = refl; gives = refl; calls = λ e calls. refl }
faithful n next (machine.Task (slicelet.Resumed ended)) = record { accepts = refl; gives = refl; calls = λ e calls. refl }
faithful n next (machine.Clerk clerk.Learnt) = record { accepts = refl; gives = refl; calls = λ e calls. refl }
faithful n next (machine.Clerk clerk.Forgotten) = record { accepts = refl; gives = refl; calls = λ e calls. refl }
faithful n next _ = record { accepts = refl; gives = refl; calls = λ e calls. refl }

-- a reply says that a new process began
abbrev is_resumed : ClusterReply → Bool
is_resumed (machine.Task (slicelet.Resumed ended)) = true
is_resumed _ = false

refused_again : (why : ClusterError) → refused_by (refusal_by why) ≡ why
refused_again error.NoActor = refl
refused_again error.NotSent = refl
refused_again (error.Table why) = refl
refused_again (error.Slicelet why) = refl
refused_again error.Stranger = refl
refused_again (error.Clerk why) = refl
refused_again error.Unknown = refl

-- what is told of any other reply says that reply
untold : (n : Named) (next : NextNumbers) (r : ClusterReply) → is_resumed r ≡ false → answered (told_as n next r) ≡ r
untold n next (machine.Table (table.Term term)) e = by_kind n.renews
  where
    by_kind : (b : Bool) → answered (term_reply b term) ≡ machine.Table (table.Term term)
    by_kind true = refl
    by_kind false = refl
untold n next (machine.Table _) e = refl
untold n next (machine.Task slicelet.Started) e = refl
untold n next (machine.Task slicelet.Heard) e = refl
untold n next (machine.Task (slicelet.Released note)) e = refl
untold n next (machine.Task (slicelet.Resumed ended)) e = absurd (let f : true ≡ false = e in cc)
untold n next (machine.Clerk clerk.Learnt) e = refl
untold n next (machine.Clerk clerk.Forgotten) e = refl
untold n next (machine.Refused why) e = ap (λ (w : ClusterError). machine.Refused w) (refused_again why)
untold n next _ e = refl

-- NO STEP BEGINS A NEW PROCESS

abbrev pub Goes : Result ClusterCall Refusal → Type 0
Goes (Ok made) = resumes made ≡ false
Goes (Err why) = Unit {0}

actor_goes : (number most : ℕ) (made : Result ClusterCall Refusal) → Goes made → Goes (if_actor number most made)
actor_goes number most made goes = by_test (is_within number most)
  where
    by_test : (b : Bool) → Goes (if b then made else Err refusal.NoActor)
    by_test true = goes
    by_test false = tt

sent_goes : {A : Type 0} (o : Option A) (deliver : A → ClusterCall) → ((made : A) → resumes (deliver made) ≡ false) → Goes (if_sent o deliver)
sent_goes None deliver goes = tt
sent_goes (Some made) deliver goes = goes made

built_goes : (o : Option AssignmentError) (made : ClusterCall) → resumes made ≡ false → Goes (if_built o made)
built_goes None made goes = goes
built_goes (Some why) made goes = tt

pub step_goes : (job : Job) (past : Past) (calls : ClusterPast) (s : Step) → Goes (call_of job past calls s)
step_goes job past calls (step.Take assigner at) = actor_goes assigner job.assigners _ refl
step_goes job past calls (step.Renew assigner at) = actor_goes assigner job.assigners _ refl
step_goes job past calls (step.Propose assigner generation slices at) = actor_goes assigner job.assigners _ (built_goes (refusal_of slices) _ refl)
step_goes job past calls (step.Commit assigner at) = actor_goes assigner job.assigners _ refl
step_goes job past calls step.Phase = refl
step_goes job past calls step.Rows = refl
step_goes job past calls (step.Grant task life at) = actor_goes task job.tasks _ refl
step_goes job past calls (step.Free number at) = sent_goes (with_number number (reverse (notes_made calls))) _ (λ note. refl)
step_goes job past calls step.Lose = refl
step_goes job past calls (step.Start task life at) = refl
step_goes job past calls (step.Hear task number at) = actor_goes task job.tasks _ (sent_goes (with_number number (grants calls)) _ (λ grant. refl))
step_goes job past calls (step.Release task kind at) = refl
step_goes job past calls (step.Serve task key at) = refl
step_goes job past calls (step.Hold task key at) = refl
step_goes job past calls (step.Check task number at) = actor_goes task job.tasks _ (sent_goes (with_number number (reverse (handles_given calls))) _ (λ handle. refl))
step_goes job past calls (step.Learn clerk generation) = actor_goes clerk job.clerks _ (sent_goes (published generation calls) _ (λ slicing. refl))
step_goes job past calls (step.Look clerk key) = refl
step_goes job past calls (step.Forget clerk) = refl
step_goes job past calls _ = tt

-- a reply of an actor, if the call comes to it, says no more than the actor's answer
own_goes : (number most : ℕ) (answer : ClusterReply) → is_resumed answer ≡ false → is_resumed (by_actor number most answer) ≡ false
own_goes number most answer goes = by_test (is_within number most)
  where
    by_test : (b : Bool) → is_resumed (if b then answer else machine.Refused error.NoActor) ≡ false
    by_test true = goes
    by_test false = refl

unless_goes : (o : Option ClusterError) (answer : ClusterReply) → is_resumed answer ≡ false → is_resumed (unless o answer) ≡ false
unless_goes None answer goes = goes
unless_goes (Some why) answer goes = refl

machine_goes : {M R E : Type 0} (refused : E → ClusterError) (name : R → ClusterReply) (step : Result (M × R) E) → ((r : R) → is_resumed (name r) ≡ false)
    → is_resumed (from_machine refused name step) ≡ false
machine_goes refused name (Ok p) goes = goes p.1
machine_goes refused name (Err why) goes = refl

named_goes : {M A : Type 0} (name : A → SliceletReply) (step : Result (M × A) SliceletError) → ((a : A) → is_resumed (machine.Task (name a)) ≡ false)
    → is_resumed (from_machine error.Slicelet machine.Task (with_named_reply name step)) ≡ false
named_goes name (Ok p) goes = goes p.1
named_goes name (Err why) goes = refl

module _ (job : Job) (calls : ClusterPast) where
  task_goes : (task : ℕ) (c : SliceletCall) → resumes (call.Task task c) ≡ false
      → is_resumed (from_machine error.Slicelet machine.Task (slicelet_step (history task calls) c)) ≡ false
  task_goes task (Start life at) goes = named_goes (λ _. slicelet.Started) (start_step (history task calls) life at) (λ a. refl)
  task_goes task (Hear grant at) goes = named_goes (λ _. slicelet.Heard) (hear_step (history task calls) grant at) (λ a. refl)
  task_goes task (Release kind at) goes = named_goes slicelet.Released (release_step (history task calls) kind at) (λ a. refl)
  task_goes task (Resume life) goes = absurd (let f : true ≡ false = goes in cc)

  hold_goes : (o : Result _ _) → is_resumed (hold_reply o) ≡ false
  hold_goes (Ok handle) = refl
  hold_goes (Err why) = refl

  check_goes : (given strange kept : Bool) → is_resumed (check_reply given strange kept) ≡ false
  check_goes false strange kept = refl
  check_goes true true kept = refl
  check_goes true false true = refl
  check_goes true false false = refl

  look_goes : (o : Result _ _) → is_resumed (look_reply o) ≡ false
  look_goes (Ok found) = refl
  look_goes (Err unknown) = refl

  -- so that no reply to its call says that one began
  reply_goes : (made : ClusterCall) (kept : Bool) → resumes made ≡ false → is_resumed (cluster_reply job calls made kept) ≡ false
  reply_goes (call.Table c) kept goes =
      unless_goes (table_refusal job calls c) _ (machine_goes error.Table machine.Table (table_step (standing job.policy calls) c) (λ r. refl))
  reply_goes (call.Task task c) kept goes = own_goes task job.tasks _ (unless_goes (task_refusal calls c) _ (task_goes task c goes))
  reply_goes (call.Clerk clerk c) kept goes =
      own_goes clerk job.clerks _ (unless_goes (clerk_refusal calls c) _ (machine_goes error.Clerk machine.Clerk (clerk_step (newest_learnt clerk calls) c) (λ r. refl)))
  reply_goes call.Phase kept goes = refl
  reply_goes call.Rows kept goes = refl
  reply_goes (call.Serve task key at) kept goes = own_goes task job.tasks _ refl
  reply_goes (call.Hold task key at) kept goes =
      own_goes task job.tasks _ (hold_goes (held_by (rule_in calls task key at) (handle_on key (history task calls))))
  reply_goes (call.Check task handle at) kept goes =
      own_goes task job.tasks _ (check_goes (is_given calls handle) (is_strange (history task calls) handle) kept)
  reply_goes (call.Look clerk key) kept goes = own_goes clerk job.clerks _ (look_goes (look_at (newest_learnt clerk calls) key))

  -- the calls after one more, by what is told of it
  pub calls_after : (past : Past) (s : Step) (made : ClusterCall) (kept : Bool) (r : ClusterReply) (answer : Reply) → call_of job past calls s ≡ Ok made
      → r ≡ cluster_reply job calls made kept → answer ≡ told_as (named s) (next_numbers calls) r → with_call answer (Ok made) calls ≡ cluster_event made r ∷ calls
  calls_after past s made kept r answer is given e =
      let next = next_numbers calls in
      let goes : resumes made ≡ false = subst Goes is (step_goes job past calls s) in
      let same = untold (named s) next r (ap is_resumed given ∙ reply_goes made kept goes) in
      ap (λ (a : Reply). with_call a (Ok made) calls) e
      ∙ ((faithful (named s) next r).calls (cluster_event made (answered (told_as (named s) next r))) calls ∙ ap (λ (x : ClusterReply). cluster_event made x ∷ calls) same)

-- the reply to a `check` by a task of the job or not
abbrev pub own_check_reply : Bool → Bool → Bool → Bool → ClusterReply
own_check_reply own given strange kept = if own then check_reply given strange kept else machine.Refused error.NoActor
