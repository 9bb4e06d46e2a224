-- What the reply to a call says of the machines just before it, which it left as they were.
use Rattle.std.proofs.Common.{◌≡◌, ◌∙◌, ℕ, ◌<◌, Bool, true, false, List, ◌∷◌, refl, sym, ap, subst, inl, inr}
use Rattle.std.specs.Prelude.{Option, Some, None, Result, Ok, Err, not, ◌↔◌, if◌then◌else◌}
use Rattle.machines.specs.Numbers.{is_within}
use Rattle.machines.specs.Refusals.{when}
use Rattle.slice_ranges.specs.declared.key.TheConstants.{KEYS}
use Rattle.lease_rule.specs.declared.answer.Verdict.{Verdict}
use Rattle.grants.specs.declared.slicelet_call.SliceletCall.{SliceletCall}
use Rattle.grants.specs.declared.slicelet_call.SliceletCall.TheVariants.{Start, Hear, Release, Resume}
use Rattle.grants.specs.declared.slicelet_call.SliceletReply.{SliceletReply}
use Rattle.grants.specs.declared.slicelet_error.SliceletError.{SliceletError}
use Rattle.grants.specs.declared.slicelet_error.Stranger.{Stranger}
use Rattle.grants.specs.declared.table_call.TableCall.{TableCall}
use Rattle.grants.specs.declared.table_call.TableCall.TheVariants.{JobTake, JobRenew, Propose, Commit, Grant as Ask, Free, Restart}
use Rattle.grants.specs.declared.table_call.TableReply.{TableReply}
use Rattle.grants.specs.declared.table_error.TableError.{TableError}
use Rattle.grants.specs.Policies.{Terms}
use Rattle.lease_table.specs.Calls.{AnsweredTableCall, table_step, standing_after}
use Rattle.lease_table.specs.Tables.{Standing}
use Rattle.key_handle.specs.declared.handle.KeyHandle.{KeyHandle}
use Rattle.slicelet.specs.Continuity.{handle_on, held_by, checked_in, is_kept, is_strange, IsChecked, IsContinuous}
use Rattle.slicelet.specs.Laws.{AgreeOnHeard}
use Rattle.slicelet.specs.Rules.{covers_key, rule_after}
use Rattle.slicelet.specs.States.{SliceletState, state_after, rule_in_state}
use Rattle.slicelet.specs.Steps.{slicelet_step}
use Rattle.job_calls.specs.declared.call.ClusterCall.{ClusterCall}
use Rattle.job_calls.specs.declared.call.ClusterCall.TheVariants as call
use Rattle.job_calls.specs.declared.error.ClusterError.{ClusterError}
use Rattle.job_calls.specs.declared.error.ClusterError.TheVariants as error
use Rattle.job_calls.specs.declared.reply.ClusterReply.{ClusterReply}
use Rattle.job_calls.specs.declared.reply.ClusterReply.TheVariants as reply
use Rattle.cluster.specs.Answers.{covers, unless, from_machine, hold_reply, check_reply}
use Rattle.cluster.specs.Pasts.{Event, event, Past, standing, history, task_calls}
use Rattle.cluster.specs.continued.Deliveries.{knows_grant, knows_handle, knows_note, table_refusal, task_refusal}
use Rattle.cluster.specs.continued.Jobs.{Continued}
use Rattle.cluster.specs.continued.Runs.{IsReply}
use Rattle.cluster.proofs.Adding.{adds_to_table, adds_to_task}
use Rattle.cluster.proofs.Taking.{task_taken}
use Rattle.reasons.specs.Questions.{question_of, task_of}
use Rattle.reasons.specs.Reasons.{by_table, by_task, is_answer, is_broken, is_task_refusal, is_table_refusal, is_explained}
use Rattle.reasons.specs.internals.Answers.{table_error, task_error, is_of_task, IsAnswer, IsKeyed, IsRefused, IsTableRefusal, IsTaskRefusal, IsUnkept}

-- WHAT STAYS AS IT WAS

-- a reply with which neither the table nor a task took a call
abbrev pub is_still : ClusterReply → Bool
is_still (reply.Table r) = false
is_still (reply.Task r) = false
is_still _ = true

pub of_task_still : (r : ClusterReply) → is_of_task r ≡ true → is_still r ≡ true
of_task_still (reply.Table r) e = absurd (let f : false ≡ true = e in cc)
of_task_still (reply.Task r) e = absurd (let f : false ≡ true = e in cc)
of_task_still _ e = refl

module _ (job : Continued) (past : Past) (c : ClusterCall) (r : ClusterReply) (answered : IsReply job past (event c r)) (still : is_still r ≡ true) where
  pub same_history : (task : ℕ) → history task (event c r ∷ past) ≡ history task past
  same_history task = elim (adds_to_task task past (event c r)) [
    | inl same ↦ ap (λ (calls : List SliceletCall). state_after task calls) same
    | inr new ↦ absurd (
        let t = task_taken job past task new.made new.told (subst (λ (e : Event). IsReply job past e) new.is answered) new.accepted in
        let told : r ≡ reply.Task t.left.1 = ap (λ (e : Event). e.reply) new.is ∙ t.is in
        let f : is_still (reply.Task t.left.1) ≡ true = subst (λ (x : ClusterReply). is_still x ≡ true) told still in
        let g : false ≡ true = f in cc)
  ]

  pub same_standing : (policy : Terms) → standing policy (event c r ∷ past) ≡ standing policy past
  same_standing policy = elim (adds_to_table past (event c r)) [
    | inl same ↦ ap (λ (calls : List AnsweredTableCall). standing_after policy calls) same
    | inr new ↦ absurd (
        let told : r ≡ reply.Table new.told = ap (λ (e : Event). e.reply) new.is in
        let f : is_still (reply.Table new.told) ≡ true = subst (λ (x : ClusterReply). is_still x ≡ true) told still in
        let g : false ≡ true = f in cc)
  ]

-- REFUSALS

table_told : (o : Option ClusterError) (step : Result (Standing × TableReply) TableError) (e : TableError) → (o ≡ Some (error.Table e) → ⊥)
    → by_table e ≡ unless o (from_machine error.Table reply.Table step) → step ≡ Err e
table_told None (Ok p) e other told = absurd (cc)
table_told None (Err why) e other told = (let same : why ≡ e = cc in ap (λ (w : TableError). Err w) same)
table_told (Some w) step e other told = absurd (other (let same : w ≡ error.Table e = cc in ap (λ (x : ClusterError). Some x) same))

no_table_error : (b : Bool) (why : ClusterError) (e : TableError) → (why ≡ error.Table e → ⊥) → when b why ≡ Some (error.Table e) → ⊥
no_table_error true why e other is = other (cc)
no_table_error false why e other is = cc

not_by_table : (job : Continued) (past : Past) (c : TableCall) (e : TableError) → table_refusal job past c ≡ Some (error.Table e) → ⊥
not_by_table job past (JobTake assigner at) e = no_table_error (not (is_within assigner job.assigners)) error.NoActor e (λ x. cc)
not_by_table job past (Ask task life at) e = no_table_error (not (is_within task job.tasks)) error.NoActor e (λ x. cc)
not_by_table job past (Free note at) e = no_table_error (not (knows_note job.forgotten past note)) error.NotSent e (λ x. cc)
not_by_table job past (JobRenew number at) e = λ is. cc
not_by_table job past (Propose number slicing at) e = λ is. cc
not_by_table job past (Commit number at) e = λ is. cc
not_by_table job past Restart e = λ is. cc

pub table_refused : (job : Continued) (past : Past) (c : ClusterCall) (e : TableError) → IsReply job past (event c (by_table e))
    → IsTableRefusal (standing job.policy past) c e
table_refused job past (call.Table c) e answered =
    table_told (table_refusal job past c) (table_step (standing job.policy past) c) e (not_by_table job past c e) answered.2
table_refused job past _ e answered = tt

task_told : (own : Bool) (o : Option ClusterError) (step : Result (SliceletState × SliceletReply) SliceletError) (e : SliceletError) → (o ≡ Some (error.Slicelet e) → ⊥)
    → by_task e ≡ (if own then unless o (from_machine error.Slicelet reply.Task step) else reply.Refused error.NoActor) → step ≡ Err e
task_told false o step e other told = absurd (cc)
task_told true None (Ok p) e other told = absurd (cc)
task_told true None (Err why) e other told = (let same : why ≡ e = cc in ap (λ (w : SliceletError). Err w) same)
task_told true (Some w) step e other told = absurd (other (let same : w ≡ error.Slicelet e = cc in ap (λ (x : ClusterError). Some x) same))

no_task_error : (b : Bool) (e : SliceletError) → when b error.NotSent ≡ Some (error.Slicelet e) → ⊥
no_task_error true e is = cc
no_task_error false e is = cc

not_by_task : (job : Continued) (past : Past) (c : SliceletCall) (e : SliceletError) → task_refusal job.forgotten past c ≡ Some (error.Slicelet e) → ⊥
not_by_task job past (Hear grant at) e = no_task_error (not (knows_grant job.forgotten past grant)) e
not_by_task job past (Start life at) e = λ is. cc
not_by_task job past (Release kind at) e = λ is. cc
not_by_task job past (Resume life) e = λ is. cc

-- what the reply says, if it is a refusal of the task
refused_if : (s : SliceletState) (c : ClusterCall) (r : ClusterReply) → ((e : SliceletError) → r ≡ by_task e → IsTaskRefusal s c e) → IsRefused s c r
refused_if s c (reply.Refused (error.Slicelet e)) is = is e refl
refused_if s c (reply.Refused error.NoActor) is = tt
refused_if s c (reply.Refused error.NotSent) is = tt
refused_if s c (reply.Refused (error.Table e)) is = tt
refused_if s c (reply.Refused error.Stranger) is = tt
refused_if s c (reply.Refused (error.Clerk e)) is = tt
refused_if s c (reply.Refused error.Unknown) is = tt
refused_if s c (reply.Table x) is = tt
refused_if s c (reply.Task x) is = tt
refused_if s c (reply.Clerk x) is = tt
refused_if s c (reply.Phase x) is = tt
refused_if s c (reply.Rows x) is = tt
refused_if s c (reply.Verdict x) is = tt
refused_if s c (reply.Holding x) is = tt
refused_if s c reply.Continuous is = tt
refused_if s c reply.Broken is = tt
refused_if s c (reply.Found x) is = tt

-- a refusal by the reply is one of the step
pub refusal_by : (s : SliceletState) (c : ClusterCall) (e : SliceletError) → IsAnswer s c (by_task e) → IsTaskRefusal s c e
refusal_by s (call.Task task c) e is = is
refusal_by s _ e is = tt

-- HANDLES

broken_if : (s : SliceletState) (handle : KeyHandle) (at : ℕ) (r : ClusterReply) → (r ≡ reply.Broken → checked_in s handle at ≡ Ok false) → IsUnkept s handle at r
broken_if s handle at reply.Broken is = is refl
broken_if s handle at (reply.Table x) is = tt
broken_if s handle at (reply.Task x) is = tt
broken_if s handle at (reply.Clerk x) is = tt
broken_if s handle at (reply.Phase x) is = tt
broken_if s handle at (reply.Rows x) is = tt
broken_if s handle at (reply.Verdict x) is = tt
broken_if s handle at (reply.Holding x) is = tt
broken_if s handle at reply.Continuous is = tt
broken_if s handle at (reply.Found x) is = tt
broken_if s handle at (reply.Refused x) is = tt

record IsFound (known strange kept : Bool) : Type 0 where
  of_handle : known ≡ true
  given : strange ≡ false
  lost : kept ≡ false

by_check : (own known strange kept : Bool) (r : ClusterReply) → own ≡ true → r ≡ (if own then check_reply known strange kept else reply.Refused error.NoActor) → r ≡ reply.Broken
    → IsFound known strange kept
by_check false known strange kept r o told is = absurd (let f : false ≡ true = o in cc)
by_check true false strange kept r o told is = absurd (let f : reply.Refused error.NotSent ≡ reply.Broken = sym told ∙ is in cc)
by_check true true true kept r o told is = absurd (let f : reply.Refused error.Stranger ≡ reply.Broken = sym told ∙ is in cc)
by_check true true false true r o told is = absurd (let f : reply.Continuous ≡ reply.Broken = sym told ∙ is in cc)
by_check true true false false r o told is = record { of_handle = refl; given = refl; lost = refl }

module _ (s : SliceletState) (handle : KeyHandle) (at : ℕ) (given : is_strange s handle ≡ false) where
  told_by : (kept : Bool) → is_kept s handle at ≡ kept → checked_in s handle at ≡ Ok kept
  told_by kept e = rw (given, e) refl

  pub checked_broken : (h : List SliceletCall) → IsChecked s.task h handle at (checked_in s handle at) → (IsContinuous (covers_key handle.key) h handle at → ⊥)
      → checked_in s handle at ≡ Ok false
  checked_broken h checked broken = by_test (is_kept s handle at) refl
    where
      by_test : (kept : Bool) → is_kept s handle at ≡ kept → checked_in s handle at ≡ Ok false
      by_test false e = told_by false e
      by_test true e =
          let is : IsChecked s.task h handle at (Ok true) = subst (λ (r : Result Bool Stranger). IsChecked s.task h handle at r) (told_by true e) checked in
          absurd (broken is.1)

-- ANSWERS

own_reply : (own : Bool) (answer : ClusterReply) (r : ClusterReply) → own ≡ true → r ≡ (if own then answer else reply.Refused error.NoActor) → r ≡ answer
own_reply true answer r o told = told
own_reply false answer r o told = absurd (let f : false ≡ true = o in cc)

module _ (job : Continued) (past : Past) (task : ℕ) where
  abbrev calls : List SliceletCall
  calls = task_calls task past

  abbrev Agree : ℕ → Type 0
  Agree key = AgreeOnHeard (covers_key key) (covers past key) calls

  module _ (agree : (key : ℕ) → key < KEYS → Agree key)
      (rule_law : (key at : ℕ) → Agree key → rule_after (covers_key key) calls at ≡ rule_after (covers past key) calls at) where
    rules : (key at : ℕ) → key < KEYS → rule_after (covers past key) calls at ≡ rule_in_state (covers_key key) (history task past) at
    rules key at inside = sym (rule_law key at (agree key inside))

    pub serve_answer : (key at : ℕ) (r : ClusterReply) → key < KEYS → is_within task job.tasks ≡ true → IsReply job past (event (call.Serve task key at) r)
        → IsAnswer (history task past) (call.Serve task key at) r
    serve_answer key at r inside own answered =
        own_reply (is_within task job.tasks) (reply.Verdict (rule_after (covers past key) calls at)) r own answered.2 ∙ ap (λ (v : Verdict). reply.Verdict v) (rules key at inside)

    pub hold_answer : (key at : ℕ) (r : ClusterReply) → key < KEYS → is_within task job.tasks ≡ true → IsReply job past (event (call.Hold task key at) r)
        → IsAnswer (history task past) (call.Hold task key at) r
    hold_answer key at r inside own answered =
        own_reply (is_within task job.tasks) (hold_reply (held_by (rule_after (covers past key) calls at) (handle_on key (history task past)))) r own answered.2
        ∙ ap (λ (v : Verdict). hold_reply (held_by v (handle_on key (history task past)))) (rules key at inside)

    pub check_answer : (handle : KeyHandle) (at : ℕ) (r : ClusterReply) → handle.key < KEYS → is_within task job.tasks ≡ true
        → IsReply job past (event (call.Check task handle at) r)
        → (IsContinuous (covers_key handle.key) calls handle at ↔ IsContinuous (covers past handle.key) calls handle at)
        → IsChecked task calls handle at (checked_in (history task past) handle at) → IsAnswer (history task past) (call.Check task handle at) r
    check_answer handle at r inside own answered same checked = broken_if (history task past) handle at r found
      where
        found : r ≡ reply.Broken → checked_in (history task past) handle at ≡ Ok false
        found is =
            let kept = answered.0 in
            let f = by_check (is_within task job.tasks) (knows_handle job.forgotten past handle) (is_strange (history task past) handle) kept r own answered.2 is in
            let outcome = answered.1 own f.of_handle f.given in
            checked_broken (history task past) handle at f.given calls checked (λ continuous. (let k : kept ≡ true = outcome.1 (same.0 continuous) in let g : true ≡ false = sym k ∙ f.lost in cc))

    pub task_answer : (c : SliceletCall) (r : ClusterReply) → IsReply job past (event (call.Task task c) r) → IsAnswer (history task past) (call.Task task c) r
    task_answer c r answered = refused_if (history task past) (call.Task task c) r told
      where
        told : (e : SliceletError) → r ≡ by_task e → slicelet_step (history task past) c ≡ Err e
        told e is =
            task_told (is_within task job.tasks) (task_refusal job.forgotten past c) (slicelet_step (history task past) c) e (not_by_task job past c e) (sym is ∙ answered.2)

-- the task of a call
pub task_of_task : (task : ℕ) (c : SliceletCall) → task_of (call.Task task c) ≡ task
task_of_task task (Start life at) = refl
task_of_task task (Hear grant at) = refl
task_of_task task (Release kind at) = refl
task_of_task task (Resume life) = refl

module _ (job : Continued) (past : Past)
    (agree : (task key : ℕ) → key < KEYS → AgreeOnHeard (covers_key key) (covers past key) (task_calls task past))
    (rule_law : (task key at : ℕ) → AgreeOnHeard (covers_key key) (covers past key) (task_calls task past)
    → rule_after (covers_key key) (task_calls task past) at ≡ rule_after (covers past key) (task_calls task past) at)
    (continuous_law : (task : ℕ) (handle : KeyHandle) (at : ℕ) → AgreeOnHeard (covers_key handle.key) (covers past handle.key) (task_calls task past)
    → IsContinuous (covers_key handle.key) (task_calls task past) handle at ↔ IsContinuous (covers past handle.key) (task_calls task past) handle at)
    (checked_law : (task : ℕ) (handle : KeyHandle) (at : ℕ) → handle.key < KEYS → IsChecked task (task_calls task past) handle at (checked_in (history task past) handle at)) where
  pub answer_of : (c : ClusterCall) (r : ClusterReply) → IsReply job past (event c r) → is_within (task_of c) job.tasks ≡ true → IsKeyed (question_of c)
      → IsAnswer (history (task_of c) past) c r
  answer_of (call.Serve task key at) r answered own keyed = serve_answer job past task (agree task) (rule_law task) key at r keyed own answered
  answer_of (call.Hold task key at) r answered own keyed = hold_answer job past task (agree task) (rule_law task) key at r keyed own answered
  answer_of (call.Check task handle at) r answered own keyed =
      check_answer job past task (agree task) (rule_law task) handle at r keyed own answered (continuous_law task handle at (agree task handle.key keyed))
      (checked_law task handle at keyed)
  answer_of (call.Task task c) r answered own keyed =
      subst (λ (n : ℕ). IsAnswer (history n past) (call.Task task c) r) (sym (task_of_task task c)) (task_answer job past task (agree task) (rule_law task) c r answered)
  answer_of (call.Table c) r answered own keyed = refused_if (history (task_of (call.Table c)) past) (call.Table c) r (λ e is. tt)
  answer_of (call.Clerk clerk c) r answered own keyed = refused_if (history 0 past) (call.Clerk clerk c) r (λ e is. tt)
  answer_of call.Phase r answered own keyed = refused_if (history 0 past) call.Phase r (λ e is. tt)
  answer_of call.Rows r answered own keyed = refused_if (history 0 past) call.Rows r (λ e is. tt)
  answer_of (call.Look clerk key) r answered own keyed = refused_if (history 0 past) (call.Look clerk key) r (λ e is. tt)

-- ERRORS

pub by_table_error : (r : ClusterReply) (e : TableError) → Some e ≡ table_error r → r ≡ by_table e
by_table_error (reply.Refused (error.Table why)) e is = (let same : e ≡ why = cc in ap (λ (w : TableError). by_table w) (sym same))
by_table_error (reply.Refused error.NoActor) e is = absurd (cc)
by_table_error (reply.Refused error.NotSent) e is = absurd (cc)
by_table_error (reply.Refused (error.Slicelet why)) e is = absurd (cc)
by_table_error (reply.Refused error.Stranger) e is = absurd (cc)
by_table_error (reply.Refused (error.Clerk why)) e is = absurd (cc)
by_table_error (reply.Refused error.Unknown) e is = absurd (cc)
by_table_error (reply.Table x) e is = absurd (cc)
by_table_error (reply.Task x) e is = absurd (cc)
by_table_error (reply.Clerk x) e is = absurd (cc)
by_table_error (reply.Phase x) e is = absurd (cc)
by_table_error (reply.Rows x) e is = absurd (cc)
by_table_error (reply.Verdict x) e is = absurd (cc)
by_table_error (reply.Holding x) e is = absurd (cc)
by_table_error reply.Continuous e is = absurd (cc)
by_table_error reply.Broken e is = absurd (cc)
by_table_error (reply.Found x) e is = absurd (cc)

pub by_task_error : (r : ClusterReply) (e : SliceletError) → Some e ≡ task_error r → r ≡ by_task e
by_task_error (reply.Refused (error.Slicelet why)) e is = (let same : e ≡ why = cc in ap (λ (w : SliceletError). by_task w) (sym same))
by_task_error (reply.Refused error.NoActor) e is = absurd (cc)
by_task_error (reply.Refused error.NotSent) e is = absurd (cc)
by_task_error (reply.Refused (error.Table why)) e is = absurd (cc)
by_task_error (reply.Refused error.Stranger) e is = absurd (cc)
by_task_error (reply.Refused (error.Clerk why)) e is = absurd (cc)
by_task_error (reply.Refused error.Unknown) e is = absurd (cc)
by_task_error (reply.Table x) e is = absurd (cc)
by_task_error (reply.Task x) e is = absurd (cc)
by_task_error (reply.Clerk x) e is = absurd (cc)
by_task_error (reply.Phase x) e is = absurd (cc)
by_task_error (reply.Rows x) e is = absurd (cc)
by_task_error (reply.Verdict x) e is = absurd (cc)
by_task_error (reply.Holding x) e is = absurd (cc)
by_task_error reply.Continuous e is = absurd (cc)
by_task_error reply.Broken e is = absurd (cc)
by_task_error (reply.Found x) e is = absurd (cc)

-- A TASK THAT THE JOB DOES NOT HAVE

foreign_reply : (own : Bool) (answer : ClusterReply) (r : ClusterReply) → own ≡ false → r ≡ (if own then answer else reply.Refused error.NoActor) → r ≡ reply.Refused error.NoActor
foreign_reply true answer r o told = absurd (let f : true ≡ false = o in cc)
foreign_reply false answer r o told = told

no_table_refusal : (c : TableCall) (r : ClusterReply) → None ≡ table_error r → is_table_refusal c r ≡ false
no_table_refusal c (reply.Refused (error.Table e)) none = absurd (cc)
no_table_refusal c (reply.Refused error.NoActor) none = refl
no_table_refusal c (reply.Refused error.NotSent) none = refl
no_table_refusal c (reply.Refused (error.Slicelet e)) none = refl
no_table_refusal c (reply.Refused error.Stranger) none = refl
no_table_refusal c (reply.Refused (error.Clerk e)) none = refl
no_table_refusal c (reply.Refused error.Unknown) none = refl
no_table_refusal c (reply.Table x) none = refl
no_table_refusal c (reply.Task x) none = refl
no_table_refusal c (reply.Clerk x) none = refl
no_table_refusal c (reply.Phase x) none = refl
no_table_refusal c (reply.Rows x) none = refl
no_table_refusal c (reply.Verdict x) none = refl
no_table_refusal c (reply.Holding x) none = refl
no_table_refusal c reply.Continuous none = refl
no_table_refusal c reply.Broken none = refl
no_table_refusal c (reply.Found x) none = refl

pub foreign : (job : Continued) (past : Past) (c : ClusterCall) (r : ClusterReply) → IsReply job past (event c r) → is_within (task_of c) job.tasks ≡ false
    → None ≡ table_error r → is_explained c r ≡ false
foreign job past (call.Serve task key at) r answered out none =
    rw (foreign_reply (is_within task job.tasks) (reply.Verdict (rule_after (covers past key) (task_calls task past) at)) r out answered.2) refl
foreign job past (call.Hold task key at) r answered out none =
    rw (foreign_reply (is_within task job.tasks) (hold_reply (held_by (rule_after (covers past key) (task_calls task past) at) (handle_on key (history task past)))) r out answered.2) refl
foreign job past (call.Check task handle at) r answered out none =
    rw (foreign_reply (is_within task job.tasks) (check_reply (knows_handle job.forgotten past handle) (is_strange (history task past) handle) answered.0) r out answered.2) refl
foreign job past (call.Task task c) r answered out none =
    let o : is_within task job.tasks ≡ false = sym (ap (λ (n : ℕ). is_within n job.tasks) (task_of_task task c)) ∙ out in
    rw (foreign_reply (is_within task job.tasks) (unless (task_refusal job.forgotten past c) (from_machine error.Slicelet reply.Task (slicelet_step (history task past) c))) r o answered.2) refl
foreign job past (call.Table c) r answered out none = no_table_refusal c r none
foreign job past (call.Clerk clerk c) r answered out none = refl
foreign job past call.Phase r answered out none = refl
foreign job past call.Rows r answered out none = refl
foreign job past (call.Look clerk key) r answered out none = refl

-- A REPLY OF NO TASK

not_answer : (r : ClusterReply) → is_of_task r ≡ false → (is_answer r ≡ false) × (is_broken r ≡ false) × ((c : SliceletCall) → is_task_refusal c r ≡ false)
not_answer (reply.Refused why) e = absurd (let f : true ≡ false = e in cc)
not_answer (reply.Verdict x) e = absurd (let f : true ≡ false = e in cc)
not_answer (reply.Holding x) e = absurd (let f : true ≡ false = e in cc)
not_answer reply.Broken e = absurd (let f : true ≡ false = e in cc)
not_answer (reply.Table x) e = (refl, refl, λ c. refl)
not_answer (reply.Task x) e = (refl, refl, λ c. refl)
not_answer (reply.Clerk x) e = (refl, refl, λ c. refl)
not_answer (reply.Phase x) e = (refl, refl, λ c. refl)
not_answer (reply.Rows x) e = (refl, refl, λ c. refl)
not_answer reply.Continuous e = (refl, refl, λ c. refl)
not_answer (reply.Found x) e = (refl, refl, λ c. refl)

pub unexplained : (c : ClusterCall) (r : ClusterReply) → is_of_task r ≡ false → None ≡ table_error r → is_explained c r ≡ false
unexplained (call.Serve task key at) r e none = (not_answer r e).0
unexplained (call.Hold task key at) r e none = (not_answer r e).0
unexplained (call.Check task handle at) r e none = (not_answer r e).1
unexplained (call.Task task c) r e none = (not_answer r e).2 c
unexplained (call.Table c) r e none = no_table_refusal c r none
unexplained _ r e none = refl

-- ACTORS

pub own : {A : Type 0} (b : Bool) (found state : A) → Some found ≡ (if b then Some state else None) → (b ≡ true) × (found ≡ state)
own true found state e = (refl, cc)
own false found state e = absurd (cc)

pub not_own : {A : Type 0} (b : Bool) (state : A) → None ≡ (if b then Some state else None) → b ≡ false
not_own true state e = absurd (cc)
not_own false state e = refl
