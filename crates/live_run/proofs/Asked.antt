-- Keys that a task was asked for.
use Rattle.std.proofs.Common.{◌≡◌, ℕ, zero, suc, ◌+◌, ◌*◌, ◌∙◌, List, [], ◌∷◌, ◌++◌, length, arith, ap, refl, sym, length-append, append_assoc, append-nil, mul_assoc, zero-mul}
use Rattle.std.specs.Prelude.{Result, decimal, false, true, cond}
use Rattle.std.proofs.lemmas.List.Sums.{sum_by-append}
use Rattle.slice_ranges.specs.Hash.{slice_key}
use Rattle.history_lock.specs.Passes.{Lock, PassView}
use Rattle.tickets.specs.Tickets.{TicketPassView}
use Rattle.job_calls.specs.declared.record.CallRecord.{CallRecord}
use Rattle.job_calls.specs.declared.call.ClusterCall.{ClusterCall}
use Rattle.job_calls.specs.declared.call.ClusterCall.TheVariants.{Check, Clerk, Hold, Look, Phase, Rows, Serve, Table, Task}
use Rattle.job_calls.specs.declared.reply.ClusterReply.{ClusterReply}
use Rattle.job_calls.specs.declared.reply.ClusterReply.TheVariants as told
use Rattle.machines.specs.declared.event.Event.{Event}
use Rattle.lease_rule.specs.declared.answer.Verdict.{Verdict}
use Rattle.slicelet.specs.Rules.{covers_key}
use Rattle.slicelet.specs.States.{rule_in_state, SliceletState}
use Rattle.slicelet.specs.Steps.{event_step}
use Rattle.grants.specs.declared.slicelet_call.SliceletCall.{SliceletCall}
use Rattle.shared_objects.specs.declared.error.Recorded.{Recorded}
use Rattle.live_run.specs.internals.LiveTasks.{TellsVerdict}
use Rattle.shared_objects.specs.Draws.{CanDraw}
use Rattle.shared_objects.specs.Calls.{AsksFor, WasSpent}
use Rattle.shared_objects.specs.Objects.{SharedObject}
use Rattle.live_run.specs.Reports.{asked_key, asked_keys, is_serve, job_keys, serves, task_keys, worker_keys, AreServesFrom}

module _ {M E R F : Type 0} (step : M → E → Result (M × R) F) (lock : Lock M) (old_draws new_draws : TicketPassView) {T : Type 0} (answers : M → ℕ → T → Type 0) (recorded : ℕ → ClusterCall) (told : T → ClusterReply) where
  pub asked_drew : (old : PassView M E) (asked : Recorded T) (new : PassView M E) → AsksFor step lock old_draws new_draws answers recorded told old asked new
      → length new_draws.drawn ≡ length old_draws.drawn + 1
  asked_drew old asked new w = ap (λ (p : TicketPassView). length p.drawn) w.0.drawn.adds ∙ length-append old_draws.drawn (asked.call.ticket ∷ [])

  pub asked_step : (old : PassView M E) (asked : Recorded T) (new : PassView M E) → AsksFor step lock old_draws new_draws answers recorded told old asked new
      → asked.call.step ≡ recorded asked.call.ticket
  asked_step old asked new w = w.1.called

pub asked_verdict : (slicelet : SharedObject SliceletState) (old_draws new_draws : TicketPassView) (key : ℕ) (recorded : ℕ → ClusterCall) (old : PassView SliceletState (Event SliceletCall)) (asked : Recorded Verdict) (new : PassView SliceletState (Event SliceletCall))
    → AsksFor event_step slicelet.lock old_draws new_draws (λ machine number answer. answer ≡ rule_in_state (covers_key key) machine number) recorded told.Verdict old asked new
    → TellsVerdict slicelet old_draws new_draws key old asked.call new
asked_verdict slicelet old_draws new_draws key recorded old asked new w = (asked.answer, w.1.told, w.0)

pub spent_not : {M E : Type 0} (old_draws new_draws : TicketPassView) (old new : PassView M E) → CanDraw old_draws → WasSpent old_draws new_draws old new → false ≡ true
spent_not old_draws new_draws old new can w = let spent : length old_draws.drawn ≡ old_draws.terms.quota = w.spent in absurd (omega (arith, can, spent))

pub serves_push : (task first : ℕ) (entries : List CallRecord) (entry : CallRecord) → AreServesFrom task first entries
    → entry.step ≡ Serve task (slice_key (decimal (first + length entries))) entry.ticket → AreServesFrom task first (entries ++ entry ∷ [])
serves_push task first [] entry are is = (let n : first + 0 ≡ first = omega arith in rw n at is, tt)
serves_push task first (other ∷ entries) entry are is =
    let n : first + length (other ∷ entries) ≡ first + 1 + length entries = omega arith in
    (are.0, serves_push task (first + 1) entries entry are.1 (is ∙ ap (λ (k : ℕ). Serve task (slice_key (decimal k)) entry.ticket) n))

pub serves-append : (xs ys : List CallRecord) → serves (xs ++ ys) ≡ serves xs + serves ys
serves-append xs ys = sum_by-append (λ (entry : CallRecord). cond (is_serve entry.step) 1 0) xs ys

-- each ask is counted
asked_key_counts : (call : ClusterCall) → length (asked_key call) ≡ cond (is_serve call) 1 0
asked_key_counts (Table call) = refl
asked_key_counts (Task task call) = refl
asked_key_counts (Clerk clerk call) = refl
asked_key_counts Phase = refl
asked_key_counts Rows = refl
asked_key_counts (Serve task key at) = refl
asked_key_counts (Hold task key at) = refl
asked_key_counts (Check task handle at) = refl
asked_key_counts (Look clerk key) = refl

asked_count : (entries : List CallRecord) → length (asked_keys entries) ≡ serves entries
asked_count [] = refl
asked_count (entry ∷ entries) =
    let more = asked_count entries in
    let head : serves (entry ∷ []) ≡ 0 + cond (is_serve entry.step) 1 0 = refl in
    let both : serves (entry ∷ entries) ≡ serves (entry ∷ []) + serves entries = serves-append (entry ∷ []) entries in
    let parts : length (asked_keys (entry ∷ entries)) ≡ length (asked_key entry.step) + length (asked_keys entries) = length-append (asked_key entry.step) (asked_keys entries) in
    omega (arith, asked_key_counts entry.step, more, head, both, parts)

empty_list : {A : Type 0} (xs : List A) → length xs ≡ 0 → xs ≡ []
empty_list [] e = refl
empty_list (x ∷ xs) e = let f : length (x ∷ xs) ≡ 0 = e in absurd (omega (arith, f))

-- who asked for nothing
pub asked_nothing : (entries : List CallRecord) → serves entries ≡ 0 → asked_keys entries ≡ []
asked_nothing entries none = empty_list (asked_keys entries) (asked_count entries ∙ none)

pub asked-append : (xs ys : List CallRecord) → asked_keys (xs ++ ys) ≡ asked_keys xs ++ asked_keys ys
asked-append [] ys = refl
asked-append (x ∷ xs) ys = ap (λ ks. asked_key x.step ++ ks) (asked-append xs ys) ∙ sym (append_assoc (asked_key x.step) (asked_keys xs) (asked_keys ys))

-- what one worker asked for
pub asked_by_worker : (task first : ℕ) (entries : List CallRecord) → AreServesFrom task first entries → asked_keys entries ≡ worker_keys task first (length entries)
asked_by_worker task first [] are = refl
asked_by_worker task first (entry ∷ entries) are =
    ap (λ call. asked_key call ++ asked_keys entries) are.0 ∙ ap (λ ks. (task, slice_key (decimal first)) ∷ ks) (asked_by_worker task (first + 1) entries are.1)

-- one worker more
pub workers_push : (task asks workers : ℕ) → task_keys task asks (suc workers) ≡ task_keys task asks workers ++ worker_keys task 0 asks
workers_push task asks zero = append-nil (worker_keys task 0 asks)
workers_push task asks (suc workers) =
    ap (λ ks. worker_keys task 0 asks ++ ks) (workers_push task asks workers) ∙ sym (append_assoc (worker_keys task 0 asks) (task_keys task asks workers) (worker_keys task 0 asks))

-- one task more
pub tasks_push : (workers asks task tasks : ℕ) → job_keys workers asks task (suc tasks) ≡ job_keys workers asks task tasks ++ task_keys (task + tasks) asks workers
tasks_push workers asks task zero = append-nil (task_keys task asks workers) ∙ ap (λ n. task_keys n asks workers) (let e : task ≡ task + 0 = omega arith in e)
tasks_push workers asks task (suc tasks) =
    let rest = tasks_push workers asks (task + 1) tasks ∙ ap (λ n. job_keys workers asks (task + 1) tasks ++ task_keys n asks workers) (let e : task + 1 + tasks ≡ task + suc tasks = omega arith in e) in
    ap (λ ks. task_keys task asks workers ++ ks) rest ∙ sym (append_assoc (task_keys task asks workers) (job_keys workers asks (task + 1) tasks) (task_keys (task + suc tasks) asks workers))

-- how many keys these are
many_of_worker : (task number asks : ℕ) → length (worker_keys task number asks) ≡ asks
many_of_worker task number zero = refl
many_of_worker task number (suc asks) = ap suc (many_of_worker task (number + 1) asks)

one_more : (n p : ℕ) → suc n * p ≡ n * p + p
one_more n p = omega arith

many_of_task : (task asks workers : ℕ) → length (task_keys task asks workers) ≡ workers * asks
many_of_task task asks zero = sym (zero-mul asks)
many_of_task task asks (suc workers) =
    let parts = length-append (worker_keys task 0 asks) (task_keys task asks workers) in
    let product : suc workers * asks ≡ workers * asks + asks = one_more workers asks in
    omega (arith, parts, product, many_of_worker task 0 asks, many_of_task task asks workers)

many_of_job : (workers asks task tasks : ℕ) → length (job_keys workers asks task tasks) ≡ tasks * (workers * asks)
many_of_job workers asks task zero = sym (zero-mul (workers * asks))
many_of_job workers asks task (suc tasks) =
    let parts = length-append (task_keys task asks workers) (job_keys workers asks (task + 1) tasks) in
    let product : suc tasks * (workers * asks) ≡ tasks * (workers * asks) + workers * asks = one_more tasks (workers * asks) in
    omega (arith, parts, product, many_of_task task asks workers, many_of_job workers asks (task + 1) tasks)

-- so many keys were asked for
pub all_asked : (workers asks tasks : ℕ) (records : List CallRecord) → asked_keys records ≡ job_keys workers asks 1 tasks → serves records ≡ tasks * workers * asks
all_asked workers asks tasks records keys = sym (asked_count records) ∙ (ap length keys ∙ (many_of_job workers asks 1 tasks ∙ sym (mul_assoc tasks workers asks)))
