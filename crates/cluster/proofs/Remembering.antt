-- What is known to a job that goes on from earlier calls.
use Rattle.std.proofs.Common.{◌≡◌, ℕ, ◌<◌, ◌≤◌, Bool, true, false, not, ◌||◌, [], ◌∷◌, ◌++◌, length, refl, sym, ◌∙◌, ap, arith}
use Rattle.std.specs.Prelude.{nat_lt, Option, Some, if◌then◌else◌}
use Rattle.std.specs.List.{list_any}
use Rattle.std.proofs.lemmas.Bool.Decides.{nat_tests}
use Rattle.std.proofs.lemmas.List.{append_assoc, length-append}
use Rattle.std.proofs.lemmas.List.Folds.{list_any-append}
use Rattle.machines.specs.Numbers.{is_within}
use Rattle.machines.specs.Refusals.{when}
use Rattle.grants.specs.declared.table_call.TableCall.{TableCall}
use Rattle.grants.specs.declared.table_call.TableCall.TheVariants as table_call
use Rattle.grants.specs.declared.values.ReleaseNote.{ReleaseNote}
use Rattle.lease_table.specs.Calls.{table_step}
use Rattle.key_handle.specs.declared.handle.KeyHandle.{KeyHandle}
use Rattle.grants.specs.declared.slicelet_call.SliceletCall.{SliceletCall}
use Rattle.grants.specs.declared.slicelet_call.SliceletCall.TheVariants.{Start, Hear, Release, Resume}
use Rattle.slicelet.specs.Continuity.{is_strange}
use Rattle.slicelet.specs.Steps.{slicelet_step}
use Rattle.clerk.specs.declared.call.ClerkCall.{ClerkCall}
use Rattle.clerk.specs.declared.call.ClerkCall.TheVariants.{Learn, Forget}
use Rattle.clerk.specs.Calls.{clerk_step}
use Rattle.job_calls.specs.Jobs.{Job}
use Rattle.job_calls.specs.declared.error.ClusterError.{ClusterError}
use Rattle.job_calls.specs.declared.error.ClusterError.TheVariants as error
use Rattle.job_calls.specs.declared.call.ClusterCall.{ClusterCall}
use Rattle.job_calls.specs.declared.call.ClusterCall.TheVariants as call
use Rattle.job_calls.specs.declared.reply.ClusterReply.{ClusterReply}
use Rattle.job_calls.specs.declared.reply.ClusterReply.TheVariants as reply
use Rattle.cluster.specs.Answers.{by_actor, unless, from_machine, check_reply}
use Rattle.cluster.specs.Made.{with_note, with_handle, notes_made, handles_made, same_note, same_handle, is_sent, is_made, is_given, is_published}
use Rattle.cluster.specs.Pasts.{Event, Past, standing, history, newest_learnt}
use Rattle.cluster.specs.continued.Jobs.{Continued, from_start}
use Rattle.cluster.specs.continued.Deliveries.{knows_note, knows_handle, table_refusal, task_refusal, clerk_refusal}
use Rattle.cluster.specs.continued.Replies.{reply_to}
use Rattle.cluster.specs.continued.Runs.{IsOutcome, IsReply, IsRun}
use Rattle.cluster.specs.continued.Clusters.{IsSteady}
use Rattle.cluster.specs.continued.Snapshots.{Remembered, IsAllSent, notes_since, handles_since, continued_from}
use Rattle.cluster.proofs.Keeping.{notes_in_front, handles_in_front}

if_true : {A : Type 0} (b : Bool) (x y : A) → b ≡ true → (if b then x else y) ≡ x
if_true true x y e = refl
if_true false x y e = absurd (cc)

if_false : {A : Type 0} (b : Bool) (x y : A) → b ≡ false → (if b then x else y) ≡ y
if_false false x y e = refl
if_false true x y e = absurd (cc)

-- what is not yet forgotten is known where it was made
known_before : (b x y : Bool) → b ≡ true → (if (if b then false else x) then false else y) ≡ y
known_before true x y e = refl
known_before false x y e = absurd (cc)

module _ (job : Job) (past : Past) (r : Remembered) where
  abbrev goes_on : Continued
  goes_on = continued_from job past r

  -- BEFORE THE END OF THE EARLIER CALLS

  module _ (p : Past) (early : nat_lt (length p) (length past) ≡ true) where
    table_before : (c : TableCall) → table_refusal goes_on p c ≡ table_refusal (from_start job) p c
    table_before (table_call.Free note at) = ap (λ (b : Bool). when (not b) error.NotSent) (known_before (nat_lt (length p) (length past)) _ (is_made p note) early)
    table_before (table_call.JobTake assigner at) = refl
    table_before (table_call.JobRenew number at) = refl
    table_before (table_call.Propose number slicing at) = refl
    table_before (table_call.Commit number at) = refl
    table_before (table_call.Grant task life at) = refl
    table_before table_call.Restart = refl

    task_before : (c : SliceletCall) → task_refusal goes_on.forgotten p c ≡ task_refusal (from_start job).forgotten p c
    task_before (Hear grant at) = ap (λ (b : Bool). when (not b) error.NotSent) (known_before (nat_lt (length p) (length past)) _ (is_sent p grant) early)
    task_before (Start life at) = refl
    task_before (Release kind at) = refl
    task_before (Resume life) = refl

    clerk_before : (c : ClerkCall) → clerk_refusal goes_on.forgotten p c ≡ clerk_refusal (from_start job).forgotten p c
    clerk_before (Learn slicing) = ap (λ (b : Bool). when (not b) error.NotSent) (known_before (nat_lt (length p) (length past)) _ (is_published p slicing) early)
    clerk_before Forget = refl

    handle_before : (handle : KeyHandle) → knows_handle goes_on.forgotten p handle ≡ is_given p handle
    handle_before handle = known_before (nat_lt (length p) (length past)) _ (is_given p handle) early

    reply_before : (c : ClusterCall) (kept : Bool) → reply_to goes_on p c kept ≡ reply_to (from_start job) p c kept
    reply_before (call.Table c) kept = ap (λ (o : Option ClusterError). unless o (from_machine error.Table reply.Table (table_step (standing job.policy p) c))) (table_before c)
    reply_before (call.Task task c) kept =
        ap (λ (o : Option ClusterError). by_actor task job.tasks (unless o (from_machine error.Slicelet reply.Task (slicelet_step (history task p) c)))) (task_before c)
    reply_before (call.Clerk clerk c) kept =
        ap (λ (o : Option ClusterError). by_actor clerk job.clerks (unless o (from_machine error.Clerk reply.Clerk (clerk_step (newest_learnt clerk p) c)))) (clerk_before c)
    reply_before (call.Check task handle at) kept =
        ap (λ (b : Bool). by_actor task job.tasks (check_reply b (is_strange (history task p) handle) kept)) (handle_before handle)
    reply_before call.Phase kept = refl
    reply_before call.Rows kept = refl
    reply_before (call.Serve task key at) kept = refl
    reply_before (call.Hold task key at) kept = refl
    reply_before (call.Look clerk key) kept = refl

    outcome_before : (c : ClusterCall) (kept : Bool) → IsOutcome (from_start job) p c kept → IsOutcome goes_on p c kept
    outcome_before (call.Check task handle at) kept outcome = λ within known familiar. outcome within (sym (handle_before handle) ∙ known) familiar
    outcome_before (call.Table c) kept outcome = outcome
    outcome_before (call.Task task c) kept outcome = outcome
    outcome_before (call.Clerk clerk c) kept outcome = outcome
    outcome_before call.Phase kept outcome = outcome
    outcome_before call.Rows kept outcome = outcome
    outcome_before (call.Serve task key at) kept outcome = outcome
    outcome_before (call.Hold task key at) kept outcome = outcome
    outcome_before (call.Look clerk key) kept outcome = outcome

  runs_before : (later p : Past) → past ≡ later ++ p → IsRun (from_start job) p → IsRun goes_on p
  runs_before later [] whole run = tt
  runs_before later (e ∷ p) whole run =
      let many : length past ≡ length (later ++ e ∷ p) = ap (λ (xs : Past). length xs) whole in
      let parts = length-append later (e ∷ p) in
      let few : length p < length past = omega (arith, many, parts) in
      let early : nat_lt (length p) (length past) ≡ true = grind (arith, nat_tests, few) in
      let answered = run.0 in (
        (answered.0, outcome_before p early e.call answered.0 answered.1, answered.2 ∙ sym (reply_before p early e.call answered.0)),
        runs_before (later ++ e ∷ []) p (whole ∙ sym (append_assoc later (e ∷ []) p)) run.1,
      )

  -- the earlier calls are a run of the job that goes on from them
  pub run_remembered : IsRun (from_start job) past → IsRun goes_on past
  run_remembered run = runs_before [] past refl run

  -- FROM THEIR END ON

  not_early : (later : Past) → nat_lt (length (later ++ past)) (length past) ≡ false
  not_early later = let parts = length-append later past in grind (arith, nat_tests, parts)

  one_more : (a s kept made : Bool)
      → (if not ((a || s) || kept) then false else (a || made)) ≡ (a || (if not (s || kept) then false else made))
  one_more true s kept made = refl
  one_more false s kept made = refl

  -- a list of what is new, and what is known of the rest
  known_more : (early late a s kept made since all : Bool) → early ≡ false → late ≡ false → since ≡ (a || s) → all ≡ (a || made)
      → (if (if late then false else not (since || kept)) then false else all) ≡ (a || (if (if early then false else not (s || kept)) then false else made))
  known_more false false a s kept made since all e f g h = rw (g, h) (one_more a s kept made)
  known_more true late a s kept made since all e f g h = absurd (cc)
  known_more false true a s kept made since all e f g h = absurd (cc)

  pub steady_remembered : (many_notes many_handles : ℕ)
      → IsSteady goes_on past (record { grants = r.grants; notes = many_notes; handles = many_handles; proposals = r.proposals })
  steady_remembered many_notes many_handles = record {
    grants = λ later number. if_false (nat_lt (length (later ++ past)) (length past)) false (is_within number r.grants) (not_early later);
    generations = λ later generation. if_false (nat_lt (length (later ++ past)) (length past)) false (is_within generation r.proposals) (not_early later);
    notes = λ later e note.
        let p : Past = later ++ past in
        known_more (nat_lt (length p) (length past)) (nat_lt (length (e ∷ p)) (length past)) (list_any (same_note note) (with_note e.call e.reply []))
        (list_any (same_note note) (notes_since (length past) p)) (list_any (same_note note) r.notes) (is_made p note)
        (list_any (same_note note) (notes_since (length past) (e ∷ p))) (is_made (e ∷ p) note) (not_early later) (not_early (e ∷ later))
        (ap (list_any (same_note note)) (if_false (nat_lt (length p) (length past)) [] (with_note e.call e.reply (notes_since (length past) p)) (not_early later)
        ∙ notes_in_front e.call e.reply (notes_since (length past) p)) ∙ list_any-append (same_note note) (with_note e.call e.reply []) (notes_since (length past) p))
        (ap (list_any (same_note note)) (notes_in_front e.call e.reply (notes_made p)) ∙ list_any-append (same_note note) (with_note e.call e.reply []) (notes_made p));
    handles = λ later e handle.
        let p : Past = later ++ past in
        known_more (nat_lt (length p) (length past)) (nat_lt (length (e ∷ p)) (length past)) (list_any (same_handle handle) (with_handle e.call e.reply []))
        (list_any (same_handle handle) (handles_since (length past) p)) (list_any (same_handle handle) r.handles) (is_given p handle)
        (list_any (same_handle handle) (handles_since (length past) (e ∷ p))) (is_given (e ∷ p) handle) (not_early later) (not_early (e ∷ later))
        (ap (list_any (same_handle handle)) (if_false (nat_lt (length p) (length past)) [] (with_handle e.call e.reply (handles_since (length past) p)) (not_early later)
        ∙ handles_in_front e.call e.reply (handles_since (length past) p)) ∙ list_any-append (same_handle handle) (with_handle e.call e.reply []) (handles_since (length past) p))
        (ap (list_any (same_handle handle)) (handles_in_front e.call e.reply (handles_made p)) ∙ list_any-append (same_handle handle) (with_handle e.call e.reply []) (handles_made p));
  }

  -- AT THEIR END

  no_notes_since : (first : ℕ) (p : Past) → length p ≤ first → notes_since first p ≡ []
  no_notes_since first [] few = refl
  no_notes_since first (e ∷ p) few = if_true (nat_lt (length p) first) [] (with_note e.call e.reply (notes_since first p)) (grind (arith, nat_tests, few))

  no_handles_since : (first : ℕ) (p : Past) → length p ≤ first → handles_since first p ≡ []
  no_handles_since first [] few = refl
  no_handles_since first (e ∷ p) few = if_true (nat_lt (length p) first) [] (with_handle e.call e.reply (handles_since first p)) (grind (arith, nat_tests, few))

  known_now : (early since kept made : Bool) → early ≡ false → since ≡ false → (kept ≡ true → made ≡ true)
      → kept ≡ (if (if early then false else not (since || kept)) then false else made)
  known_now false false true made e f sound = sym (sound refl)
  known_now false false false made e f sound = refl
  known_now true since kept made e f sound = absurd (cc)
  known_now false true kept made e f sound = absurd (cc)

  pub knows_remembered_note : ((note : ReleaseNote) → list_any (same_note note) r.notes ≡ true → is_made past note ≡ true)
      → (note : ReleaseNote) → list_any (same_note note) r.notes ≡ knows_note goes_on.forgotten past note
  knows_remembered_note sound note =
      known_now (nat_lt (length past) (length past)) (list_any (same_note note) (notes_since (length past) past)) (list_any (same_note note) r.notes) (is_made past note)
      (not_early []) (ap (list_any (same_note note)) (no_notes_since (length past) past (omega arith))) (sound note)

  pub knows_remembered_handle : ((handle : KeyHandle) → list_any (same_handle handle) r.handles ≡ true → is_given past handle ≡ true)
      → (handle : KeyHandle) → list_any (same_handle handle) r.handles ≡ knows_handle goes_on.forgotten past handle
  knows_remembered_handle sound handle =
      known_now (nat_lt (length past) (length past)) (list_any (same_handle handle) (handles_since (length past) past)) (list_any (same_handle handle) r.handles) (is_given past handle)
      (not_early []) (ap (list_any (same_handle handle)) (no_handles_since (length past) past (omega arith))) (sound handle)

-- WHAT IS NOT REFUSED AS NOT SENT

-- a reply that rests on what is known is refused as not sent, or is the same where all is known
abbrev IsUnsent : ClusterReply → Type 0
IsUnsent told = told ≡ reply.Refused error.NotSent

module _ (job : Continued) (p : Past) where
  abbrev plain : Continued
  plain = record job { earlier = []; forgotten = (from_start (record { policy = job.policy; assigners = job.assigners; tasks = job.tasks; clerks = job.clerks })).forgotten }

  told_alike : (b : Bool) (made : Bool) (told : ClusterReply) (answer : Option ClusterError → ClusterReply) → ((why : ClusterError) → answer (Some why) ≡ reply.Refused why)
      → told ≡ answer (when (not (if b then false else made)) error.NotSent) → (IsUnsent told → ⊥) → told ≡ answer (when (not made) error.NotSent)
  told_alike false made told answer refuses e sent = e
  told_alike true made told answer refuses e sent = absurd (sent (e ∙ refuses error.NotSent))

  table_told : (c : TableCall) (told : ClusterReply) → told ≡ unless (table_refusal job p c) (from_machine error.Table reply.Table (table_step (standing job.policy p) c))
      → (IsUnsent told → ⊥) → told ≡ unless (table_refusal plain p c) (from_machine error.Table reply.Table (table_step (standing job.policy p) c))
  table_told (table_call.Free note at) told e sent =
      told_alike (job.forgotten.note p note) (is_made p note) told
      (λ o. unless o (from_machine error.Table reply.Table (table_step (standing job.policy p) (table_call.Free note at)))) (λ why. refl) e sent
  table_told (table_call.JobTake assigner at) told e sent = e
  table_told (table_call.JobRenew number at) told e sent = e
  table_told (table_call.Propose number slicing at) told e sent = e
  table_told (table_call.Commit number at) told e sent = e
  table_told (table_call.Grant task life at) told e sent = e
  table_told table_call.Restart told e sent = e

  -- no other actor knows or forgets
  of_actor : (b : Bool) (told answer other : ClusterReply) → told ≡ (if b then answer else reply.Refused error.NoActor) → (b ≡ true → told ≡ answer → told ≡ other)
      → told ≡ (if b then other else reply.Refused error.NoActor)
  of_actor true told answer other e next = next refl e
  of_actor false told answer other e next = e

  task_told : (task : ℕ) (c : SliceletCall) (told : ClusterReply)
      → told ≡ unless (task_refusal job.forgotten p c) (from_machine error.Slicelet reply.Task (slicelet_step (history task p) c))
      → (IsUnsent told → ⊥) → told ≡ unless (task_refusal plain.forgotten p c) (from_machine error.Slicelet reply.Task (slicelet_step (history task p) c))
  task_told task (Hear grant at) told e sent =
      told_alike (job.forgotten.grant p grant.number) (is_sent p grant) told
      (λ o. unless o (from_machine error.Slicelet reply.Task (slicelet_step (history task p) (Hear grant at)))) (λ why. refl) e sent
  task_told task (Start life at) told e sent = e
  task_told task (Release kind at) told e sent = e
  task_told task (Resume life) told e sent = e

  clerk_told : (clerk : ℕ) (c : ClerkCall) (told : ClusterReply)
      → told ≡ unless (clerk_refusal job.forgotten p c) (from_machine error.Clerk reply.Clerk (clerk_step (newest_learnt clerk p) c))
      → (IsUnsent told → ⊥) → told ≡ unless (clerk_refusal plain.forgotten p c) (from_machine error.Clerk reply.Clerk (clerk_step (newest_learnt clerk p) c))
  clerk_told clerk (Learn slicing) told e sent =
      told_alike (job.forgotten.generation p slicing.generation) (is_published p slicing) told
      (λ o. unless o (from_machine error.Clerk reply.Clerk (clerk_step (newest_learnt clerk p) (Learn slicing)))) (λ why. refl) e sent
  clerk_told clerk Forget told e sent = e

  check_told : (b given strange kept : Bool) (told : ClusterReply) → told ≡ check_reply (if b then false else given) strange kept → (IsUnsent told → ⊥)
      → told ≡ check_reply given strange kept
  check_told false given strange kept told e sent = e
  check_told true given strange kept told e sent = absurd (sent e)

  reply_told : (c : ClusterCall) (kept : Bool) (told : ClusterReply) → told ≡ reply_to job p c kept → (IsUnsent told → ⊥) → told ≡ reply_to plain p c kept
  reply_told (call.Table c) kept told e sent = table_told c told e sent
  reply_told (call.Task task c) kept told e sent = of_actor (is_within task job.tasks) told _ _ e (λ own is. task_told task c told is sent)
  reply_told (call.Clerk clerk c) kept told e sent = of_actor (is_within clerk job.clerks) told _ _ e (λ own is. clerk_told clerk c told is sent)
  reply_told (call.Check task handle at) kept told e sent =
      of_actor (is_within task job.tasks) told _ _ e
      (λ own is. check_told (job.forgotten.handle p handle) (is_given p handle) (is_strange (history task p) handle) kept told is sent)
  reply_told call.Phase kept told e sent = e
  reply_told call.Rows kept told e sent = e
  reply_told (call.Serve task key at) kept told e sent = e
  reply_told (call.Hold task key at) kept told e sent = e
  reply_told (call.Look clerk key) kept told e sent = e

  -- a handle that is forgotten was told of as not sent
  known_told : (within b given strange kept : Bool) (told : ClusterReply)
      → told ≡ (if within then check_reply (if b then false else given) strange kept else reply.Refused error.NoActor) → (IsUnsent told → ⊥)
      → within ≡ true → given ≡ true → (if b then false else given) ≡ true
  known_told true false given strange kept told e sent own made = made
  known_told true true given strange kept told e sent own made = absurd (sent e)
  known_told false b given strange kept told e sent own made = absurd (let f : false ≡ true = own in cc)

  outcome_told : (c : ClusterCall) (kept : Bool) (told : ClusterReply) → told ≡ reply_to job p c kept → (IsUnsent told → ⊥) → IsOutcome job p c kept → IsOutcome plain p c kept
  outcome_told (call.Check task handle at) kept told e sent outcome = λ within given familiar.
      outcome within
      (known_told (is_within task job.tasks) (job.forgotten.handle p handle) (is_given p handle) (is_strange (history task p) handle) kept told e sent within given) familiar
  outcome_told (call.Table c) kept told e sent outcome = outcome
  outcome_told (call.Task task c) kept told e sent outcome = outcome
  outcome_told (call.Clerk clerk c) kept told e sent outcome = outcome
  outcome_told call.Phase kept told e sent outcome = outcome
  outcome_told call.Rows kept told e sent outcome = outcome
  outcome_told (call.Serve task key at) kept told e sent outcome = outcome
  outcome_told (call.Hold task key at) kept told e sent outcome = outcome
  outcome_told (call.Look clerk key) kept told e sent outcome = outcome

  pub reply_of_all : (e : Event) → IsReply job p e → (IsUnsent e.reply → ⊥) → IsReply plain p e
  reply_of_all e answered sent =
      (answered.0, outcome_told e.call answered.0 e.reply answered.2 sent answered.1, reply_told e.call answered.0 e.reply answered.2 sent)

-- where no reply was that something was not sent, all calls are a run
pub whole_run : (job : Job) (past later : Past) (r : Remembered) → IsRun (from_start job) past → IsRun (continued_from job past r) (later ++ past) → IsAllSent later
    → IsRun (from_start job) (later ++ past)
whole_run job past [] r before run sent = before
whole_run job past (e ∷ later) r before run sent =
    (reply_of_all (continued_from job past r) (later ++ past) e run.0 sent.0, whole_run job past later r before run.1 sent.1)
