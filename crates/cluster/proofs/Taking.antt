-- A call that was accepted came to its actor, and its machine took it.
use Rattle.std.proofs.Common.{◌≡◌, ℕ, Bool, true, false, not, refl, sym, ◌∙◌, ap, subst}
use Rattle.std.specs.Prelude.{Option, Some, None, Result, Ok, Err, if◌then◌else◌}
use Rattle.machines.specs.Answers.{with_named_reply}
use Rattle.machines.specs.Calls.{answer_of}
use Rattle.machines.specs.Numbers.{is_within}
use Rattle.machines.specs.Refusals.{first_of, when, unless_refused}
use Rattle.grants.specs.declared.table_call.TableCall.{TableCall}
use Rattle.grants.specs.declared.table_call.TableReply.{TableReply}
use Rattle.grants.specs.declared.table_error.TableError.{TableError}
use Rattle.lease_table.specs.Calls.{table_step}
use Rattle.grants.specs.declared.slicelet_call.SliceletCall.{SliceletCall}
use Rattle.grants.specs.declared.slicelet_call.SliceletCall.TheVariants.{Start, Hear, Release, Resume}
use Rattle.grants.specs.declared.slicelet_call.SliceletReply.{SliceletReply}
use Rattle.grants.specs.declared.slicelet_call.SliceletReply.TheVariants.{Started, Heard, Released, Resumed}
use Rattle.slicelet.specs.States.{SliceletState}
use Rattle.slicelet.specs.Steps.{start_checks, hear_checks, release_checks, resume_checks, slicelet_step}
use Rattle.slicelet.specs.Accepted.{checks_of}
use Rattle.cluster.specs.continued.Jobs.{Continued}
use Rattle.job_calls.specs.declared.error.ClusterError.{ClusterError}
use Rattle.job_calls.specs.declared.error.ClusterError.TheVariants as error
use Rattle.job_calls.specs.declared.call.ClusterCall.TheVariants as call
use Rattle.job_calls.specs.declared.reply.ClusterReply.{ClusterReply}
use Rattle.job_calls.specs.declared.reply.ClusterReply.TheVariants as reply
use Rattle.cluster.specs.Pasts.{event, Past, is_accepted, standing, history}
use Rattle.cluster.specs.continued.Deliveries.{table_refusal, task_refusal}
use Rattle.cluster.specs.Answers.{unless, from_machine}
use Rattle.cluster.specs.continued.Runs.{IsReply}

refused_unaccepted : {X : Type 0} (told : ClusterReply) (why : ClusterError) → told ≡ reply.Refused why → is_accepted told ≡ true → X
refused_unaccepted told why e a = absurd (let f : is_accepted (reply.Refused why) ≡ true = subst (λ (t : ClusterReply). is_accepted t ≡ true) e a in let g : false ≡ true = f in cc)

-- nothing is held against it
pub unless_true : {E : Type 0} (b : Bool) (why : E) → when (not b) why ≡ None → b ≡ true
unless_true true why e = refl
unless_true false why e = absurd (cc)

-- what is known was made
pub known_made : (forgotten made : Bool) → (if forgotten then false else made) ≡ true → made ≡ true
known_made true made e = absurd (cc)
known_made false made e = e

-- an accepted call is by an actor of the job
of_actor : (b : Bool) (told answer : ClusterReply) → told ≡ (if b then answer else reply.Refused error.NoActor) → is_accepted told ≡ true
    → (b ≡ true) × (told ≡ answer)
of_actor true told answer e a = (refl, e)
of_actor false told answer e a = refused_unaccepted told error.NoActor e a

-- nothing kept a call from its machine, whose step is accepted and named in the reply
pub record IsTaken {M R E : Type 0} (name : R → ClusterReply) (refusal : Option ClusterError) (step : Result (M × R) E) (told : ClusterReply) : Type 0 where
  pub came : refusal ≡ None
  pub left : M × R
  pub taken : step ≡ Ok left
  pub is : told ≡ name left.1

of_machine : {M R E : Type 0} (refused : E → ClusterError) (name : R → ClusterReply) (refusal : Option ClusterError) (step : Result (M × R) E) (told : ClusterReply)
    → told ≡ unless refusal (from_machine refused name step) → is_accepted told ≡ true → IsTaken name refusal step told
of_machine refused name (Some why) step told e a = refused_unaccepted told why e a
of_machine refused name None (Ok p) told e a = record { came = refl; left = p; taken = refl; is = e }
of_machine refused name None (Err why) told e a = refused_unaccepted told (refused why) e a

pub table_taken : (job : Continued) (past : Past) (c : TableCall) (told : ClusterReply) → IsReply job past (event (call.Table c) told) → is_accepted told ≡ true
    → IsTaken reply.Table (table_refusal job past c) (table_step (standing job.policy past) c) told
table_taken job past c told h a = of_machine error.Table reply.Table (table_refusal job past c) (table_step (standing job.policy past) c) told h.2 a

pub task_taken : (job : Continued) (past : Past) (task : ℕ) (c : SliceletCall) (told : ClusterReply) → IsReply job past (event (call.Task task c) told) → is_accepted told ≡ true
    → IsTaken reply.Task (task_refusal job.forgotten past c) (slicelet_step (history task past) c) told
task_taken job past task c told h a =
    let own = of_actor (is_within task job.tasks) told (unless (task_refusal job.forgotten past c) (from_machine error.Slicelet reply.Task (slicelet_step (history task past) c))) h.2 a in
    of_machine error.Slicelet reply.Task (task_refusal job.forgotten past c) (slicelet_step (history task past) c) told own.1 a

-- the table answers by its step
pub table_answer : (job : Continued) (past : Past) (c : TableCall) (r : TableReply) → IsReply job past (event (call.Table c) (reply.Table r))
    → Ok r ≡ answer_of (table_step (standing job.policy past) c)
table_answer job past c r h =
    let t = table_taken job past c (reply.Table r) h refl in
    let same : r ≡ t.left.1 = let e : reply.Table r ≡ reply.Table t.left.1 = t.is in cc in
    let named : Result TableReply TableError = Ok r in
    (let e : named ≡ Ok t.left.1 = ap (λ (x : TableReply). let o : Result TableReply TableError = Ok x in o) same in e) ∙ sym (ap answer_of t.taken)

-- THE STEPS OF A SLICELET

not_refused : {M A S E : Type 0} (name : A → S) (o : Option E) (value : M × A) (left : M × S) → with_named_reply name (unless_refused o value) ≡ Ok left → o ≡ None
not_refused name None value left e = refl
not_refused name (Some why) value left e = absurd (cc)

pub step_unrefused : (s : SliceletState) (c : SliceletCall) (left : SliceletState × SliceletReply) → slicelet_step s c ≡ Ok left → first_of (checks_of s c) ≡ None
step_unrefused s (Start life at) left e = not_refused (λ _. Started) (first_of (start_checks s life at)) _ left e
step_unrefused s (Hear grant at) left e = not_refused (λ _. Heard) (first_of (hear_checks s grant at)) _ left e
step_unrefused s (Release kind at) left e = not_refused Released (first_of (release_checks s kind at)) _ left e
step_unrefused s (Resume life) left e = not_refused Resumed (first_of (resume_checks s life)) _ left e

pub named_reply : {M A S E : Type 0} (name : A → S) (o : Option E) (value : M × A) (left : M × S) → with_named_reply name (unless_refused o value) ≡ Ok left → left.1 ≡ name value.1
named_reply name None value left e = cc
named_reply name (Some why) value left e = absurd (cc)
