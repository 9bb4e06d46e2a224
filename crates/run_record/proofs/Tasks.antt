-- The calls of tasks, as a record has them.
use Rattle.std.proofs.Common.{◌≡◌, ℕ, ◌+◌, ◌<◌, Bool, true, false, List, [], ◌∷◌, ◌++◌, length, refl, sym, ◌∙◌, ap, subst, arith, eqb-true}
use Rattle.std.specs.Prelude.{◌≢◌, ◌==◌, slice_get, Some, None, if◌then◌else◌}
use Rattle.std.proofs.Math.ListN.{set, get_or, length-set}
use Rattle.std.proofs.lemmas.Bool.Decides.{nat_tests}
use Rattle.std.proofs.lemmas.List.{get_or-set_other}
use Rattle.std.proofs.lemmas.Grind.{get_or-set_at}
use Rattle.std.proofs.lemmas.Option.{slice_get_within, get_or_from_slice_get, slice_get-get_or}
use Rattle.machines.specs.Refusals.{first_of}
use Rattle.grants.specs.declared.slicelet_call.SliceletCall.{SliceletCall}
use Rattle.grants.specs.declared.slicelet_call.SliceletCall.TheVariants.{Start, Hear, Release, Resume}
use Rattle.grants.specs.declared.slicelet_call.SliceletReply.{SliceletReply}
use Rattle.slicelet.specs.Accepted.{checks_of, AreAccepted}
use Rattle.slicelet.specs.States.{SliceletState, state_after}
use Rattle.slicelet.specs.Steps.{next_state}
use Rattle.slicelet.proofs.Accepting.{resume_allowed}
use Rattle.slicelet.proofs.Standing.{next_after}
use Rattle.job_calls.specs.declared.call.ClusterCall.{ClusterCall}
use Rattle.job_calls.specs.declared.call.ClusterCall.TheVariants as call
use Rattle.job_calls.specs.declared.reply.ClusterReply.{ClusterReply}
use Rattle.job_calls.specs.declared.reply.ClusterReply.TheVariants as reply
use Rattle.job_calls.specs.declared.snapshot.TaskSnapshot.{TaskSnapshot}
use Rattle.cluster.specs.ActorLists.{AreActors}
use Rattle.cluster.specs.Pasts.{Event, event, Past, is_accepted, task_calls, history}
use Rattle.cluster.specs.continued.Jobs.{Continued}
use Rattle.cluster.specs.continued.Runs.{IsReply}
use Rattle.cluster.specs.continued.Snapshots.{IsTaskAt, calls_in}
use Rattle.cluster.proofs.Taking.{task_taken, step_unrefused}
use Rattle.cluster.proofs.Turning.{reversed_more}
use Rattle.run_record.specs.Records.{AreTasksAt}
use Rattle.run_record.specs.internals.{new_task, with_call, task_after}

-- A TASK

-- a new process begins with its first call alone
begun : (task life : ℕ) (h : List SliceletCall) → state_after task (Resume life ∷ h) ≡ state_after task (Resume life ∷ [])
begun task life h = refl

begun_accepted : (task life : ℕ) → AreAccepted task (Resume life ∷ [])
begun_accepted task life = (resume_allowed (state_after task []) life (omega arith), tt)

-- before its first call a task stands at a new one
new_stands : (task : ℕ) → IsTaskAt [] task new_task
new_stands task = record { state = refl; accepted = begun_accepted task 0 }

-- one call more
calls_more : (task : TaskSnapshot) (c : SliceletCall) → calls_in (with_call c task) ≡ c ∷ calls_in task
calls_more task c = ap (λ (xs : List SliceletCall). xs ++ Resume task.life ∷ []) (reversed_more task.calls c)

module _ (past : Past) (n : ℕ) (task : TaskSnapshot) (at : IsTaskAt past n task) (r : SliceletReply) where
  own_next : (c : SliceletCall) → history n (event (call.Task n c) (reply.Task r) ∷ past) ≡ state_after n (c ∷ task_calls n past)
  own_next c = let test : (n == n) ≡ true = grind (arith, nat_tests) in rw test refl

  longer : (c : SliceletCall) → first_of (checks_of (history n past) c) ≡ None → IsTaskAt (event (call.Task n c) (reply.Task r) ∷ past) n (with_call c task)
  longer c e =
      let here : first_of (checks_of (state_after n (calls_in task)) c) ≡ None = subst (λ (s : SliceletState). first_of (checks_of s c) ≡ None) at.state e in
      let on : state_after n (c ∷ task_calls n past) ≡ state_after n (c ∷ calls_in task) =
      sym (next_after n (task_calls n past) c e) ∙ ap (λ (s : SliceletState). next_state s c) at.state ∙ next_after n (calls_in task) c here in
      record {
        state = own_next c ∙ on ∙ ap (λ (h : List SliceletCall). state_after n h) (sym (calls_more task c));
        accepted = subst (λ (h : List SliceletCall). AreAccepted n h) (sym (calls_more task c)) (here, at.accepted);
      }

  -- the task stands where the call leaves it
  stands_next : (c : SliceletCall) → first_of (checks_of (history n past) c) ≡ None → IsTaskAt (event (call.Task n c) (reply.Task r) ∷ past) n (task_after c task)
  stands_next (Start life at) e = longer (Start life at) e
  stands_next (Hear grant at) e = longer (Hear grant at) e
  stands_next (Release kind at) e = longer (Release kind at) e
  stands_next (Resume life) e = record { state = own_next (Resume life) ∙ begun n life (task_calls n past); accepted = begun_accepted n life }

-- a task that accepted no call stands where it stood
stands_still : (past : Past) (e : Event) (n : ℕ) (task : TaskSnapshot) → task_calls n (e ∷ past) ≡ task_calls n past → IsTaskAt past n task → IsTaskAt (e ∷ past) n task
stands_still past e n task same at = record { state = ap (λ (h : List SliceletCall). state_after n h) same ∙ at.state; accepted = at.accepted }

other_calls : (past : Past) (by n : ℕ) (c : SliceletCall) (told : ClusterReply) → n ≢ by → task_calls n (event (call.Task by c) told ∷ past) ≡ task_calls n past
other_calls past by n c told other = let test : (by == n) ≡ false = grind (arith, nat_tests) in rw test refl

-- ALL TASKS

-- one of a list is another now
each_set : {A : Type 0} (P Q : ℕ → A → Type 0) (xs : List A) (place : ℕ) (new : A) → place < length xs → Q (place + 1) new
    → ((i : ℕ) (x : A) → i ≢ place → P (i + 1) x → Q (i + 1) x) → ((i : ℕ) (x : A) → slice_get xs i ≡ Some x → P (i + 1) x)
    → (i : ℕ) (x : A) → slice_get (set xs place new) i ≡ Some x → Q (i + 1) x
each_set {A} P Q xs place new inside here others each i x got = by_place (i == place) refl
  where
    read : get_or (set xs place new) i x ≡ x
    read = get_or_from_slice_get (set xs place new) i x x got

    within : i < length xs
    within = let l = slice_get_within (set xs place new) i x got in let e = length-set xs place new in omega (arith, l, e)

    by_place : (b : Bool) → b ≡ (i == place) → Q (i + 1) x
    by_place true e =
        let same : i ≡ place = eqb-true i place (sym e) in
        let is : new ≡ x = sym (get_or-set_at xs place i new x same inside) ∙ read in
        subst (λ (m : ℕ). Q (m + 1) x) (sym same) (subst (λ (y : A). Q (place + 1) y) is here)
    by_place false e =
        let other : i ≢ place = λ same. (let t : (i == place) ≡ true = grind (arith, nat_tests) in let h : true ≡ false = sym t ∙ sym e in cc) in
        let old : get_or xs i x ≡ x = sym (get_or-set_other xs place i new x other) ∙ read in
        others i x other (each i x (slice_get-get_or xs i x within ∙ ap (λ (y : A). Some y) old))

-- the tasks of a job before their first calls
pub new_stand : (many : ℕ) (tasks : List TaskSnapshot) → AreActors (λ n. new_task) many tasks → AreTasksAt [] many tasks
new_stand many tasks are = record {
  all = are.0;
  each = λ i task got. subst (λ (t : TaskSnapshot). IsTaskAt [] (i + 1) t) (sym (are.1 i task got)) (new_stands (i + 1));
}

-- a call that no task accepted
pub all_still : (past : Past) (e : Event) (many : ℕ) (tasks : List TaskSnapshot) → ((n : ℕ) → task_calls n (e ∷ past) ≡ task_calls n past) → AreTasksAt past many tasks
    → AreTasksAt (e ∷ past) many tasks
all_still past e many tasks same are = record { all = are.all; each = λ i task got. stands_still past e (i + 1) task (same (i + 1)) (are.each i task got) }

-- an accepted call of a task
pub all_next : (job : Continued) (past : Past) (by place : ℕ) (c : SliceletCall) (r : SliceletReply) (many : ℕ) (tasks : List TaskSnapshot) (before after : TaskSnapshot)
    → IsReply job past (event (call.Task by c) (reply.Task r)) → AreTasksAt past many tasks → place + 1 ≡ by → place < length tasks → before ≡ get_or tasks place before
    → after ≡ task_after c before → AreTasksAt (event (call.Task by c) (reply.Task r) ∷ past) many (set tasks place after)
all_next job past by place c r many tasks before after answered are number inside found is = record {
  all = length-set tasks place after ∙ are.all;
  each = each_set (λ n task. IsTaskAt past n task) (λ n task. IsTaskAt later n task) tasks place after inside here others are.each;
}
  where
    later : Past
    later = event (call.Task by c) (reply.Task r) ∷ past

    unrefused : first_of (checks_of (history by past) c) ≡ None
    unrefused = let t = task_taken job past by c (reply.Task r) answered refl in step_unrefused (history by past) c t.left t.taken

    was : IsTaskAt past by before
    was = subst (λ (n : ℕ). IsTaskAt past n before) number (are.each place before (slice_get-get_or tasks place before inside ∙ ap (λ (t : TaskSnapshot). Some t) (sym found)))

    here : IsTaskAt later (place + 1) after
    here = subst (λ (n : ℕ). IsTaskAt later n after) (sym number) (subst (λ (t : TaskSnapshot). IsTaskAt later by t) (sym is) (stands_next past by before was r c unrefused))

    others : (i : ℕ) (task : TaskSnapshot) → i ≢ place → IsTaskAt past (i + 1) task → IsTaskAt later (i + 1) task
    others i task other at = stands_still past (event (call.Task by c) (reply.Task r)) (i + 1) task (other_calls past by (i + 1) c (reply.Task r) (λ same. other (omega arith))) at

-- A CALL THAT NO TASK ACCEPTED

either : {A : Type 0} (b : Bool) (x : A) → (if b then x else x) ≡ x
either true x = refl
either false x = refl

-- a call of a task is refused, or answered by its slicelet
abbrev pub answered_by_task : ClusterReply → Bool
answered_by_task (reply.Task r) = true
answered_by_task _ = false

pub unanswered : (job : Continued) (past : Past) (by : ℕ) (c : SliceletCall) (told : ClusterReply) → IsReply job past (event (call.Task by c) told) → answered_by_task told ≡ false
    → is_accepted told ≡ false
unanswered job past by c told answered none = by_test (is_accepted told) refl
  where
    by_test : (b : Bool) → is_accepted told ≡ b → b ≡ false
    by_test false a = refl
    by_test true a = absurd (let t = task_taken job past by c told answered a in let h : answered_by_task (reply.Task t.left.1) ≡ false = subst (λ (x : ClusterReply). answered_by_task x ≡ false) t.is none in let g : true ≡ false = h in cc)

unaccepted : (past : Past) (by n : ℕ) (c : SliceletCall) (told : ClusterReply) → is_accepted told ≡ false → task_calls n (event (call.Task by c) told ∷ past) ≡ task_calls n past
unaccepted past by n c told none = rw none (either (by == n) (task_calls n past))

pub tasks_still : (past : Past) (by : ℕ) (c : SliceletCall) (told : ClusterReply) (many : ℕ) (tasks : List TaskSnapshot) → is_accepted told ≡ false → AreTasksAt past many tasks
    → AreTasksAt (event (call.Task by c) told ∷ past) many tasks
tasks_still past by c told many tasks none are = all_still past (event (call.Task by c) told) many tasks (λ n. unaccepted past by n c told none) are

-- WHAT IS RECORDED

no_task : (past : Past) (n : ℕ) (c : ClusterCall) (told : ClusterReply) → ((by : ℕ) (made : SliceletCall) → c ≡ call.Task by made → ⊥) → task_calls n (event c told ∷ past) ≡ task_calls n past
no_task past n (call.Task by made) told other = absurd (other by made refl)
no_task past n _ told other = refl

no_answer : (told : ClusterReply) → ((r : SliceletReply) → told ≡ reply.Task r → ⊥) → answered_by_task told ≡ false
no_answer (reply.Task r) other = absurd (other r refl)
no_answer _ other = refl

module _ (job : Continued) (past : Past) (c : ClusterCall) (told : ClusterReply) (answered : IsReply job past (event c told)) (tasks : List TaskSnapshot)
    (are : AreTasksAt past job.tasks tasks) where
  -- another call
  pub not_of_task : ((by : ℕ) (made : SliceletCall) → c ≡ call.Task by made → ⊥) → AreTasksAt (event c told ∷ past) job.tasks tasks
  not_of_task other = all_still past (event c told) job.tasks tasks (λ n. no_task past n c told other) are

  module _ (by : ℕ) (made : SliceletCall) (is : c ≡ call.Task by made) where
    of_task : IsReply job past (event (call.Task by made) told)
    of_task = subst (λ (x : ClusterCall). IsReply job past (event x told)) is answered

    -- a refused call
    pub not_answered : ((r : SliceletReply) → told ≡ reply.Task r → ⊥) → AreTasksAt (event c told ∷ past) job.tasks tasks
    not_answered other =
        subst (λ (x : ClusterCall). AreTasksAt (event x told ∷ past) job.tasks tasks) (sym is)
        (tasks_still past by made told job.tasks tasks (unanswered job past by made told of_task (no_answer told other)) are)

    -- an accepted one
    pub answered_now : (r : SliceletReply) → told ≡ reply.Task r → (place : ℕ) (before after : TaskSnapshot) → place + 1 ≡ by → place < length tasks
        → before ≡ get_or tasks place before → after ≡ task_after made before → AreTasksAt (event c told ∷ past) job.tasks (set tasks place after)
    answered_now r told_is place before after number inside found now =
        subst (λ (x : ClusterCall). AreTasksAt (event x told ∷ past) job.tasks (set tasks place after)) (sym is)
        (subst (λ (x : ClusterReply). AreTasksAt (event (call.Task by made) x ∷ past) job.tasks (set tasks place after)) (sym told_is)
        (all_next job past by place made r job.tasks tasks before after (subst (λ (x : ClusterReply). IsReply job past (event (call.Task by made) x)) told_is of_task) are number inside
        found now))
