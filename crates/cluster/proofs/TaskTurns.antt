-- A call of a task.
use Rattle.std.proofs.Common.{◌≡◌, ℕ, ◌+◌, ◌<◌, Bool, true, false, ◌||◌, List, [], ◌∷◌, length, refl, sym, ◌∙◌, ap, subst, arith}
use Rattle.std.specs.Prelude.{◌≢◌, ◌==◌, Option, None, Result, Ok, Err, IfErr, reverse, set, get_or}
use Rattle.std.proofs.lemmas.Bool.Decides.{nat_tests}
use Rattle.std.proofs.lemmas.List.{set-get_or}
use Rattle.machines.specs.declared.machine.Trouble.{Trouble}
use Rattle.machines.specs.declared.machine.Trouble.TheVariants.{NoMemory}
use Rattle.std.specs.List.{list_any}
use Rattle.indexmap.specs.IndexSet.{contains}
use Rattle.machines.specs.Answers.{Takes}
use Rattle.machines.specs.Numbers.{is_within}
use Rattle.assignment.specs.Slices.{Slicing}
use Rattle.grants.specs.declared.values.ReleaseNote.{ReleaseNote}
use Rattle.grants.specs.declared.slicelet_call.SliceletCall.{SliceletCall}
use Rattle.grants.specs.declared.slicelet_call.SliceletReply.{SliceletReply}
use Rattle.grants.specs.declared.slicelet_call.SliceletReply.TheVariants.{Started, Heard, Released, Resumed}
use Rattle.grants.specs.declared.slicelet_error.SliceletError.{SliceletError}
use Rattle.slicelet.specs.States.{SliceletState, state_after}
use Rattle.slicelet.specs.Steps.{slicelet_step}
use Rattle.std.specs.declared.alloc.AllocError.{AllocError}
use Rattle.cluster.specs.continued.Jobs.{Continued, Counts}
use Rattle.job_calls.specs.declared.error.ClusterError.{ClusterError}
use Rattle.job_calls.specs.declared.error.ClusterError.TheVariants as error
use Rattle.job_calls.specs.declared.call.ClusterCall.TheVariants as call
use Rattle.job_calls.specs.declared.reply.ClusterReply.{ClusterReply}
use Rattle.job_calls.specs.declared.reply.ClusterReply.TheVariants as reply
use Rattle.cluster.specs.declared.cluster.Cluster.{Cluster}
use Rattle.cluster.specs.Pasts.{event, Past, task_calls, history, newest_learnt}
use Rattle.cluster.specs.Made.{note_told, same_note}
use Rattle.cluster.specs.continued.Deliveries.{knows_note, task_refusal}
use Rattle.cluster.specs.Answers.{by_actor, unless, from_machine}
use Rattle.cluster.specs.continued.Replies.{reply_to}
use Rattle.cluster.specs.TakingMemory.{task_takes_memory}
use Rattle.cluster.specs.ActorLists.{AreActors}
use Rattle.cluster.specs.continued.Clusters.{LeadsTo, IsPlayed}
use Rattle.cluster.specs.internals.Turns.{known_after, told_as, notes_kept}
use Rattle.cluster.proofs.ActorLists.{of_job, actor_at, actors_set}
use Rattle.cluster.proofs.Knowing.{same_note_turned}
use Rattle.cluster.proofs.Keeping.{after_same, since_same, since_front, steady_same, steady_next, handle_known}
use Rattle.slicelet.specs.Accepted.{notes_of}
use Rattle.cluster.proofs.Playing.{IsSameBesideTasks, taken, untaken}
use Rattle.cluster.proofs.Turning.{stays}
use Rattle.cluster.proofs.TaskStates.{next_history}

-- an actor of the job gives its answer
pub by_own : (number most : ℕ) (answer : ClusterReply) → is_within number most ≡ true → by_actor number most answer ≡ answer
by_own number most answer e = rw e refl

-- no other actor does
pub by_none : (number most : ℕ) (answer : ClusterReply) → is_within number most ≡ false → by_actor number most answer ≡ reply.Refused error.NoActor
by_none number most answer e = rw e refl

-- the task of a place is of the job
pub inside_job : (job : Continued) (past : Past) (task place : ℕ) (cluster : Cluster) → LeadsTo job past cluster → place + 1 ≡ task → place < length cluster.tasks.items
    → is_within task job.tasks ≡ true
unfolding LeadsTo
inside_job job past task place cluster k number within = of_job (λ n. history n past) job.tasks cluster.tasks.items k.tasks place task number within

-- a note that is found was made
one_made : (a b after : Bool) → a ≡ b → (a || after) ≡ ((b || false) || after)
one_made true true after same = refl
one_made false false after same = refl
one_made true false after same = absurd (cc)
one_made false true after same = absurd (cc)

two_made : (a b c d after : Bool) → a ≡ b → c ≡ d → (a || (c || after)) ≡ ((b || (d || false)) || after)
two_made true true c d after same other = refl
two_made false false c d after same other = one_made c d after other
two_made true false c d after same other = absurd (cc)
two_made false true c d after same other = absurd (cc)

kept_made : (told : SliceletReply) (note : ReleaseNote) (before after : Bool) → before ≡ after
    → known_after (let answer : Result SliceletReply (Trouble SliceletError) = Ok told in answer) note before ≡ (list_any (same_note note) (note_told (reply.Task told) []) || after)
kept_made Started note before after e = e
kept_made Heard note before after e = e
kept_made (Released made) note before after e = ap (λ (b : Bool). same_note made note || b) e ∙ one_made (same_note made note) (same_note note made) after (same_note_turned made note)
kept_made (Resumed ended) note before after e =
    ap (λ (b : Bool). same_note ended.bridge note || (same_note ended.guard note || b)) e
    ∙ two_made (same_note ended.bridge note) (same_note note ended.bridge) (same_note ended.guard note) (same_note note ended.guard) after
    (same_note_turned ended.bridge note) (same_note_turned ended.guard note)

own_next : (past : Past) (task n : ℕ) (c : SliceletCall) (told : SliceletReply) → n ≡ task
    → state_after n (c ∷ task_calls n past) ≡ history n (event (call.Task task c) (reply.Task told) ∷ past)
own_next past task n c told same = let test : (task == n) ≡ true = grind (arith, nat_tests) in rw test refl

other_next : (past : Past) (task n : ℕ) (c : SliceletCall) (told : SliceletReply) → n ≢ task
    → history n past ≡ history n (event (call.Task task c) (reply.Task told) ∷ past)
other_next past task n c told other = let test : (task == n) ≡ false = grind (arith, nat_tests) in rw test refl

module _ (job : Continued) (past : Past) (task place : ℕ) (c : SliceletCall) (old new : Cluster) (number : place + 1 ≡ task) (came : task_refusal job.forgotten past c ≡ None) (k : LeadsTo job past old)
    (before after : SliceletState) (found : before ≡ get_or old.tasks.items place before) (within : place < length old.tasks.items)
    (tasks : new.tasks.items ≡ set old.tasks.items place after) (others : IsSameBesideTasks old new) where
  at_place : before ≡ history task past
  unfolding LeadsTo
  at_place = actor_at (λ n. history n past) (λ n. history n past) job.tasks old.tasks.items k.tasks place within before found ∙ ap (λ (n : ℕ). history n past) number

  reply_is : (kept : Bool) → reply_to job past (call.Task task c) kept ≡ from_machine error.Slicelet reply.Task (slicelet_step (history task past) c)
  reply_is kept =
      by_own task job.tasks _ (inside_job job past task place old k number within)
      ∙ ap (λ (o : Option ClusterError). unless o (from_machine error.Slicelet reply.Task (slicelet_step (history task past) c))) came

  pub task_played : (answer : Result SliceletReply (Trouble SliceletError)) → Takes (slicelet_step before c) before answer after
      → IfErr answer (λ trouble. trouble ≡ NoMemory → task_takes_memory c ≡ true) → reverse new.notes.items ≡ notes_kept answer (reverse old.notes.items)
      → ((note : ReleaseNote) → contains same_note new.known_notes note ≡ known_after answer note (contains same_note old.known_notes note)) → IsPlayed job past (call.Task task c) (told_as error.Slicelet reply.Task answer) new
  unfolding LeadsTo
  task_played (Ok told) took memory notes known =
      let later : Past = event (call.Task task c) (reply.Task told) ∷ past in
      let done : slicelet_step (history task past) c ≡ Ok (after, told) = subst (λ (s : SliceletState). slicelet_step s c ≡ Ok (after, told)) at_place took in
      let now : after ≡ history (place + 1) later =
      next_history task (task_calls task past) c (after, told) done ∙ ap (λ (n : ℕ). state_after n (c ∷ task_calls n past)) (sym number) ∙ own_next past task (place + 1) c told number in
      record {
        run = (taken job past (call.Task task c) error.Slicelet reply.Task (slicelet_step (history task past) c) reply_is tt (after, told) done, k.run);
        within = k.within;
        same_job = others.job ∙ k.same_job;
        table = others.table ∙ k.table;
        tasks = subst (λ (xs : List SliceletState). AreActors (λ n. history n later) job.tasks xs) (sym tasks)
            (actors_set (λ n. history n past) (λ n. history n later) job.tasks old.tasks.items k.tasks place within after now (λ i other. other_next past task (i + 1) c told (λ same. other (omega arith))));
        clerks = subst (λ (xs : List (Option Slicing)). AreActors (λ n. newest_learnt n past) job.clerks xs) (sym others.clerks) k.clerks;
        grants = after_same _ _ _ _ _ (ap (λ (c : Counts). c.grants) others.earlier) others.grants k.grants;
        notes = since_same _ _ _ _ _ (ap (λ (c : Counts). c.notes) others.earlier) notes (since_front _ _ _ (notes_of told) k.notes);
        handles = since_same _ _ _ _ _ (ap (λ (c : Counts). c.handles) others.earlier) others.handles k.handles;
        proposals = after_same _ _ _ _ _ (ap (λ (c : Counts). c.proposals) others.earlier) others.proposals k.proposals;
        earlier_notes = ap (λ (c : Counts). c.notes) others.earlier ∙ k.earlier_notes;
        earlier_handles = ap (λ (c : Counts). c.handles) others.earlier ∙ k.earlier_handles;
        known_notes = λ note.
            known note ∙ kept_made told note (contains same_note old.known_notes note) (knows_note job.forgotten past note) (k.known_notes note)
            ∙ sym (k.steady.notes [] (event (call.Task task c) (reply.Task told)) note);
        known_handles = λ handle.
            others.known_handles handle ∙ k.known_handles handle ∙ sym (handle_known job past old.earlier k.steady (call.Task task c) (reply.Task told) handle refl);
        steady = steady_same job later old.earlier (steady_next job past old.earlier k.steady (event (call.Task task c) (reply.Task told))) new.earlier others.earlier;
      }
  task_played (Err trouble) took memory notes known =
      untaken job past (call.Task task c) error.Slicelet reply.Task (slicelet_step (history task past) c) reply_is tt old new before after trouble k (record {
        job = others.job;
        earlier = others.earlier;
        table = others.table;
        tasks = tasks ∙ ap (set old.tasks.items place) (stays (slicelet_step before c) before after trouble took ∙ found) ∙ set-get_or old.tasks.items place before;
        clerks = others.clerks;
        grants = others.grants;
        notes = notes;
        handles = others.handles;
        known_notes = known;
        known_handles = others.known_handles;
        proposals = others.proposals;
      }) (subst (λ (s : SliceletState). Takes (slicelet_step s c) before (Err trouble) after) at_place took) memory (λ r. refl)

-- a call that comes to its task
pub task_turn : (job : Continued) (past : Past) (task place : ℕ) (c : SliceletCall) (old new : Cluster) → place + 1 ≡ task → task_refusal job.forgotten past c ≡ None → LeadsTo job past old
    → (before after : SliceletState) → before ≡ get_or old.tasks.items place before → place < length old.tasks.items
    → new.tasks.items ≡ set old.tasks.items place after → IsSameBesideTasks old new → (answer : Result SliceletReply (Trouble SliceletError))
    → Takes (slicelet_step before c) before answer after → IfErr answer (λ trouble. trouble ≡ NoMemory → task_takes_memory c ≡ true) → reverse new.notes.items ≡ notes_kept answer (reverse old.notes.items)
    → ((note : ReleaseNote) → contains same_note new.known_notes note ≡ known_after answer note (contains same_note old.known_notes note)) → (result : Result ClusterReply AllocError) → result ≡ told_as error.Slicelet reply.Task answer → IsPlayed job past (call.Task task c) result new
task_turn job past task place c old new number came k before after found within tasks others answer took memory notes known result is =
    subst (λ (r : Result ClusterReply AllocError). IsPlayed job past (call.Task task c) r new) (sym is)
    (task_played job past task place c old new number came k before after found within tasks others answer took memory notes known)
