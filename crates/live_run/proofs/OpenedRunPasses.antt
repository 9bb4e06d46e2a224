-- The passes and the records of all threads of a live run.
use Rattle.std.proofs.Common.{◌≡◌, ◌∙◌, ℕ, suc, ◌+◌, ◌*◌, ◌<◌, List, [], ◌∷◌, ◌++◌, length, sym, ap, arith, subst, length-append, take, drop}
use Rattle.std.specs.Prelude.{All, vec_len, Result, IfOk, slice_index_or, Option}
use Rattle.std.specs.declared.alloc.AllocError.{AllocError}
use Rattle.std.proofs.lemmas.List.{take-append-drop}
use Rattle.std.proofs.lemmas.List.Elements.{All-cons, All-append}
use Rattle.assignment.specs.Slices.{Slicing}
use Rattle.history_lock.specs.Histories.{IsLegal}
use Rattle.history_lock.specs.declared.entry.Entry.{Entry}
use Rattle.machines.specs.declared.event.Event.{Event}
use Rattle.slicelet.specs.Steps.{event_step}
use Rattle.slicelet.specs.States.{opening}
use Rattle.grants.specs.declared.slicelet_call.SliceletCall.{SliceletCall}
use Rattle.history_lock.specs.Passes.{Lock, PassView, ArePassesOf, AreNewFrom, new_pass}
use Rattle.lease_table.specs.Tables.{Standing}
use Rattle.shared_objects.specs.Objects.{SharedObject}
use Rattle.tickets.specs.Tickets.{TicketView, TicketPassView, DrawsFrom}
use Rattle.live_run.specs.declared.passes.TablePasses.{TablePasses}
use Rattle.live_run.specs.declared.passes.ClerkPasses.{ClerkPasses}
use Rattle.live_run.specs.declared.ended_run.EndedRun.{EndedRun}
use Rattle.live_run.specs.declared.live_task.LiveTask.{LiveTask}
use Rattle.live_run.specs.declared.live_task.EndedTask.{EndedTask}
use Rattle.live_run.specs.internals.LiveTasks.{AreOfLanesFrom, IsLiveTask, HasLeft}
use Rattle.live_run.specs.Reports.{asked_keys, job_keys, serves, task_keys, AreOfTasksFrom}
use Rattle.live_run.specs.internals.OpenedRuns.{AreLiveTasksFrom, HaveLeftFrom, AreQuietClerkPasses, AreQuietPasses, IsEndedRun}
use Rattle.live_run.proofs.Asked.{asked-append, asked_nothing, serves-append, tasks_push}
use Rattle.live_run.proofs.LiveTaskMembers.{lanes_push, passes_push}

-- new passes of lanes that follow one another are such in each of two parts
pub new_split : {M E : Type 0} (lock : Lock M) (lane : ℕ) (xs ys : List (PassView M E)) → AreNewFrom lane lock (xs ++ ys) → AreNewFrom lane lock xs × AreNewFrom (lane + length xs) lock ys
new_split lock lane [] ys are = (tt, subst (λ (n : ℕ). AreNewFrom n lock ys) (let e : lane ≡ lane + 0 = omega arith in e) are)
new_split lock lane (x ∷ xs) ys are =
    let more = new_split lock (lane + 1) xs ys are.1 in
    ((are.0, more.0), subst (λ (n : ℕ). AreNewFrom n lock ys) (let e : lane + 1 + length xs ≡ lane + length (x ∷ xs) = omega arith in e) more.1)

-- the one that comes last
pub new_last : {M E : Type 0} (lock : Lock M) (xs : List (PassView M E)) (x : PassView M E) → AreNewFrom 0 lock (xs ++ x ∷ []) → AreNewFrom 0 lock xs × (x ≡ new_pass lock (length xs))
new_last lock xs x are =
    let both = new_split lock 0 xs (x ∷ []) are in
    (both.0, subst (λ (n : ℕ). x ≡ new_pass lock n) (let e : 0 + length xs ≡ length xs = omega arith in e) both.1.0)

-- what two threads and the workers of some tasks leave
two_of : (n t p k : ℕ) → n + k ≡ 2 * p → t ≡ 2 → n + k ≡ t * p
two_of n t p k e f = e ∙ sym (ap (λ (m : ℕ). m * p) f)

one_more : (n p : ℕ) → (n + 1) * p ≡ n * p + p
one_more n p = omega arith

sum_more : (before after own q p k : ℕ) → after ≡ before + own → own ≡ p → before + k ≡ q → after + k ≡ q + p
sum_more before after own q p k a b c = let a : after ≡ before + own = a in let b : own ≡ p = b in let c : before + k ≡ q = c in omega (arith, a, b, c)

some_more : (before after own t u p k : ℕ) → after ≡ before + own → own ≡ p → before + k ≡ t * p → u ≡ t + 1 → after + k ≡ u * p
some_more before after own t u p k a b c f = sum_more before after own (t * p) p k a b c ∙ (sym (one_more t p) ∙ sym (ap (λ (m : ℕ). m * p) f))

-- all passes of the ticket
passes_sum : (draws workers tasks : ℕ) → draws + 2 * workers ≡ (tasks + 2) * (workers + 1) → draws ≡ tasks * (workers + 1) + 2
passes_sum draws workers tasks e = let f : draws + 2 * workers ≡ (tasks + 2) * (workers + 1) = e in omega (arith, f)

pub all_passes : (draws workers tasks lanes : ℕ) → lanes ≡ tasks + 2 → draws + 2 * workers ≡ lanes * (workers + 1) → draws ≡ tasks * (workers + 1) + 2
all_passes draws workers tasks lanes e f = passes_sum draws workers tasks (f ∙ ap (λ (n : ℕ). n * (workers + 1)) e)

-- the history of one task more
histories_push : (task : ℕ) (histories : List (List (Entry (Event SliceletCall)))) (history : List (Entry (Event SliceletCall))) → AreOfTasksFrom task histories
    → IsLegal event_step (opening (task + length histories)) history → AreOfTasksFrom task (histories ++ history ∷ [])
histories_push task [] history are is = (subst (λ n. IsLegal event_step (opening n) history) (let e : task + 0 ≡ task = omega arith in e) is, tt)
histories_push task (other ∷ histories) history are is =
    (are.0, histories_push (task + 1) histories history are.1 (subst (λ n. IsLegal event_step (opening n) history) (let e : task + length (other ∷ histories) ≡ task + 1 + length histories = omega arith in e) is))

-- the first passes, and the others
pub new_parts : {M E : Type 0} (lock : Lock M) (n : ℕ) (all front back : List (PassView M E)) → AreNewFrom 0 lock all → front ≡ take n all → back ≡ drop n all → length front ≡ n
    → AreNewFrom 0 lock front × AreNewFrom n lock back
new_parts {M} {E} lock n all front back are t r len =
    let parts = subst (λ (ps : List (PassView M E)). AreNewFrom 0 lock ps) (sym (take-append-drop n all)) are in
    let both = new_split lock 0 (take n all) (drop n all) parts in
    let count : 0 + length (take n all) ≡ n = omega (arith, ap length t, len) in (
      subst (λ (ps : List (PassView M E)). AreNewFrom 0 lock ps) (sym t) both.0,
      subst (λ (ps : List (PassView M E)). AreNewFrom n lock ps) (sym r) (subst (λ (k : ℕ). AreNewFrom k lock (drop n all)) count both.1),
    )

module _ (table : SharedObject Standing) (ticket : TicketView) where
  pub live_tasks_all : (workers task : ℕ) (live_tasks : List LiveTask) → AreLiveTasksFrom table ticket workers task live_tasks → All (λ (live_task : LiveTask). IsLiveTask table ticket workers live_task) live_tasks
  live_tasks_all workers task [] are = λ k d below. let b : k < 0 = below in absurd (omega (arith, b))
  live_tasks_all workers task (live_task ∷ live_tasks) are = All-cons (λ (c : LiveTask). IsLiveTask table ticket workers c) live_task live_tasks are.0.0 (live_tasks_all workers (task + 1) live_tasks are.1)

  pub live_tasks_push : (workers task : ℕ) (live_tasks : List LiveTask) (live_task : LiveTask) → AreLiveTasksFrom table ticket workers task live_tasks → IsLiveTask table ticket workers live_task → live_task.task ≡ task + length live_tasks
      → AreLiveTasksFrom table ticket workers task (live_tasks ++ live_task ∷ [])
  live_tasks_push workers task [] live_task are is at = ((is, let e : live_task.task ≡ task + 0 = at in omega (arith, e)), tt)
  live_tasks_push workers task (other ∷ live_tasks) live_task are is at =
      (are.0, live_tasks_push workers (task + 1) live_tasks live_task are.1 is (let e : live_task.task ≡ task + length (other ∷ live_tasks) = at in omega (arith, e)))

  -- what tasks whose numbers follow one another leave
  pub left_from : (workers asks task : ℕ) (live_tasks : List LiveTask) (results : List (Result EndedTask AllocError)) → length results ≡ length live_tasks → AreLiveTasksFrom table ticket workers task live_tasks
      → ((i : ℕ) (c : LiveTask) (r : Result EndedTask AllocError) → i < length live_tasks → IfOk (slice_index_or results i r) (λ left. HasLeft table ticket workers asks (slice_index_or live_tasks i c).task left))
      → HaveLeftFrom table ticket workers asks task results
  left_from workers asks task [] [] len are each = tt
  left_from workers asks task [] (r ∷ rs) len are each = let l : length (r ∷ rs) ≡ 0 = len in absurd (omega (arith, l))
  left_from workers asks task (m ∷ ms) [] len are each = let l : 0 ≡ length (m ∷ ms) = len in absurd (omega (arith, l))
  left_from workers asks task (m ∷ ms) (r ∷ rs) len are each = (
    subst (λ n. IfOk r (λ left. HasLeft table ticket workers asks n left)) are.0.1 (each 0 m r (omega arith)),
    left_from workers asks (task + 1) ms rs (let l : length (r ∷ rs) ≡ length (m ∷ ms) = len in omega (arith, l)) are.1 (λ i d e below. each (suc i) d e (let b : i < length ms = below in omega (arith, b))),
  )

module _ (table : SharedObject Standing) (clerk : Lock (Option Slicing)) (ticket : TicketView) where
  -- what the threads of the assigner and the clerk leave
  pub ended_run_two : (workers asks : ℕ) (assigner : TablePasses) (learner : ClerkPasses) (ended_run : EndedRun) → AreQuietPasses table ticket 0 assigner → AreQuietClerkPasses table clerk ticket learner
      → ended_run.table.items ≡ assigner.pass ∷ learner.table.pass ∷ [] → ended_run.clerk.items ≡ learner.own ∷ [] → ended_run.draws.items ≡ assigner.draws ∷ learner.table.draws ∷ []
      → ended_run.tasks.items ≡ [] → ended_run.records.items ≡ assigner.notes.records.items ++ learner.table.notes.records.items → IsEndedRun table clerk ticket workers asks ended_run
  ended_run_two workers asks assigner learner ended_run a l passes own draws tasks records =
      let two : vec_len ended_run.table ≡ 2 = ended_run.table.ok.0 ∙ ap length passes in
      let drew : vec_len ended_run.draws ≡ 2 = ended_run.draws.ok.0 ∙ ap length draws in
      let both : serves ended_run.records.items ≡ serves assigner.notes.records.items + serves learner.table.notes.records.items = ap serves records ∙ serves-append assigner.notes.records.items learner.table.notes.records.items in
      let none : serves ended_run.records.items ≡ 0 = omega (arith, both, a.quiet, l.at_table.quiet) in
      let no_task : vec_len ended_run.tasks ≡ 0 = ended_run.tasks.ok.0 ∙ ap length tasks in
      let Draws : TicketPassView → Type 0 = λ pass. DrawsFrom ticket pass in record {
        tasks = subst (λ hs. AreOfTasksFrom 1 hs) (sym tasks) tt;
        one_each = omega (arith, ended_run.tasks.ok.0, ap length tasks, two);
        own = subst (λ ps. ArePassesOf table.lock ps) (sym passes) (a.own, (l.at_table.own, tt));
        lanes = subst (λ ps. AreOfLanesFrom 0 ps) (sym passes) (a.of_lane, (l.at_table.of_lane, tt));
        clerk_own = subst (λ ps. ArePassesOf clerk ps) (sym own) (l.own, tt);
        clerk_lanes = subst (λ ps. AreOfLanesFrom 0 ps) (sym own) (l.of_lane, tt);
        one_clerk = ended_run.clerk.ok.0 ∙ ap length own;
        draws = subst (λ ps. All Draws ps) (sym draws)
            (All-cons Draws assigner.draws (learner.table.draws ∷ []) a.draws (All-cons Draws learner.table.draws [] l.at_table.draws (λ k d below. let b : k < 0 = below in absurd (omega (arith, b)))));
        many = two_of (vec_len ended_run.draws) (vec_len ended_run.table) (workers + 1) (2 * workers) (omega (arith, drew)) two;
        asked = asked_nothing ended_run.records.items none ∙ sym (ap (λ n. job_keys workers asks 1 n) no_task);
      }

  -- one task more
  pub ended_run_more : (workers asks : ℕ) (before after : EndedRun) (left : EndedTask) → IsEndedRun table clerk ticket workers asks before → HasLeft table ticket workers asks (vec_len before.tasks + 1) left
      → after.table.items ≡ before.table.items ++ left.table ∷ [] → after.clerk ≡ before.clerk → after.draws.items ≡ before.draws.items ++ left.draws.items
      → after.tasks.items ≡ before.tasks.items ++ left.history ∷ [] → after.records.items ≡ before.records.items ++ left.records.items → IsEndedRun table clerk ticket workers asks after
  ended_run_more workers asks before after left r h passes own draws tasks records =
      let more : vec_len after.table ≡ vec_len before.table + 1 = omega (arith, after.table.ok.0, before.table.ok.0, ap length passes, length-append before.table.items (left.table ∷ [])) in
      let drew : vec_len after.draws ≡ vec_len before.draws + vec_len left.draws = omega (arith, after.draws.ok.0, before.draws.ok.0, left.draws.ok.0, ap length draws, length-append before.draws.items left.draws.items) in
      let at : left.table.lane ≡ 0 + length before.table.items = omega (arith, h.of_lane, r.one_each, before.table.ok.0) in
      let grown : vec_len after.tasks ≡ vec_len before.tasks + 1 = omega (arith, after.tasks.ok.0, before.tasks.ok.0, ap length tasks, length-append before.tasks.items (left.history ∷ [])) in
      let next : vec_len before.tasks + 1 ≡ 1 + length before.tasks.items = omega (arith, before.tasks.ok.0) in
      let both = ap asked_keys records ∙ (asked-append before.records.items left.records.items ∙ (ap (λ ks. ks ++ asked_keys left.records.items) r.asked ∙ ap (λ ks. job_keys workers asks 1 (vec_len before.tasks) ++ ks) h.asked)) in
      let here : vec_len before.tasks + 1 ≡ 1 + vec_len before.tasks = omega arith in
      let one : vec_len after.tasks ≡ suc (vec_len before.tasks) = omega (arith, grown) in
      let Draws : TicketPassView → Type 0 = λ pass. DrawsFrom ticket pass in record {
        tasks = subst (λ hs. AreOfTasksFrom 1 hs) (sym tasks) (histories_push 1 before.tasks.items left.history r.tasks (subst (λ n. IsLegal event_step (opening n) left.history) next h.played));
        one_each = omega (arith, grown, r.one_each, more);
        own = subst (λ ps. ArePassesOf table.lock ps) (sym passes) (passes_push table.lock before.table.items left.table r.own h.table_pass);
        lanes = subst (λ ps. AreOfLanesFrom 0 ps) (sym passes) (lanes_push 0 before.table.items left.table r.lanes at);
        clerk_own = subst (λ ps. ArePassesOf clerk ps) (sym (ap (λ v. v.items) own)) r.clerk_own;
        clerk_lanes = subst (λ ps. AreOfLanesFrom 0 ps) (sym (ap (λ v. v.items) own)) r.clerk_lanes;
        one_clerk = ap (λ v. vec_len v) own ∙ r.one_clerk;
        draws = subst (λ ps. All Draws ps) (sym draws) (All-append Draws before.draws.items left.draws.items r.draws h.draws);
        many = some_more (vec_len before.draws) (vec_len after.draws) (vec_len left.draws) (vec_len before.table) (vec_len after.table) (workers + 1) (2 * workers) drew h.many r.many more;
        asked = both ∙ (ap (λ n. job_keys workers asks 1 (vec_len before.tasks) ++ task_keys n asks workers) here ∙ (sym (tasks_push workers asks 1 (vec_len before.tasks)) ∙ ap (λ n. job_keys workers asks 1 n) (sym one)));
      }
