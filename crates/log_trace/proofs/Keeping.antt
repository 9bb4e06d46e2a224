-- What is kept of the calls after those of one more line.
use Rattle.std.proofs.Common.{◌≡◌, ◌∙◌, ℕ, ◌+◌, ◌^◌, ◌<◌, ◌≤◌, Bool, true, false, List, [], ◌∷◌, ◌++◌, length, get_or, take, reverse, refl, sym, subst, arith}
use Rattle.std.proofs.lemmas.List.{length-reverse, length-take-le}
use Rattle.std.specs.Prelude.{◌==◌, Option, Some, None, Result, OnOk, if◌then◌else◌}
use Rattle.std.specs.List.{AllByRecursion}
use Rattle.grants.specs.declared.slicelet_call.SliceletCall.{SliceletCall}
use Rattle.slicelet.specs.Calls.{is_resume}
use Rattle.job_calls.specs.Jobs.{Job}
use Rattle.job_calls.specs.declared.call.ClusterCall.{ClusterCall}
use Rattle.job_calls.specs.declared.call.ClusterCall.TheVariants as call
use Rattle.job_calls.specs.declared.reply.ClusterReply.{ClusterReply}
use Rattle.cluster.specs.Pasts.{Past, event, is_accepted, task_calls}
use Rattle.cluster.specs.continued.Jobs.{from_start}
use Rattle.stretches.specs.declared.job_stretches.JobStretches.{JobStretches}
use Rattle.stretches.specs.declared.stretch.Stretch.{Stretch}
use Rattle.stretches.specs.Breaks.{AreBreaks}
use Rattle.stretches.specs.Stretches.{processes}
use Rattle.stretches.specs.Tasks.{AreKept, AreKeptOn, AreTaskStretches, HasFewProcesses}
use Rattle.stretches.proofs.Tasks.{kept_same}
use Rattle.log_line.specs.declared.entry.LogEntry.{LogEntry}
use Rattle.log_line.specs.declared.line.LoggedCall.{LoggedCall}
use Rattle.log_line.specs.declared.line.LoggedCall.TheVariants.{Whole, HearBare, LearnBare, Restore, Sample}
use Rattle.log_line.specs.declared.restored.KeptNumbers.{KeptNumbers}
use Rattle.log_line.specs.declared.restored.RestoreFault.{RestoreFault}
use Rattle.log_line.specs.declared.told.CallerReply.{CallerReply}
use Rattle.log_run.specs.Calls.{call_after}
use Rattle.log_run.specs.Played.{AreCallsOf, StandsFor}
use Rattle.log_run.specs.Restores.{IsTaken, grant_to_nobody}
use Rattle.log_run.proofs.Replaying.{one_more as one_more_entry}
use Rattle.log_trace.specs.declared.serving.ServingKept.{ServingKept}
use Rattle.log_trace.specs.Serving.{AreStretchesOf, given_by}
use Rattle.log_trace.specs.internals.Making.{is_single}
use Rattle.log_trace.specs.internals.Watching.{AreStretchesKept, IsServingKept}
use Rattle.log_trace.proofs.Giving.{same_given}

-- STRETCHES OF A KEY

pub stretches_observed : {T E : Type 0} (job : Job) (before after : Past) (key : Option ℕ) (old new : JobStretches) (r : Result T E)
    → AreStretchesKept job before key (Some old) → ((k : ℕ) → AreKept job before k old → OnOk r (AreKept job after k new))
    → OnOk r (AreStretchesKept job after key (Some new))
stretches_observed job before after None old new r are follows = absurd are
stretches_observed job before after (Some k) old new r are follows = follows k are

pub stretches_told : (job : Job) (past : Past) (key : Option ℕ) (kept : JobStretches) (tasks : List (List Stretch)) → AreStretchesKept job past key (Some kept)
    → ((k : ℕ) → AreKept job past k kept → AreTaskStretches job past k tasks) → AreStretchesOf job past key (Some tasks)
stretches_told job past None kept tasks are tells = absurd are
stretches_told job past (Some k) kept tasks are tells = tells k are

pub no_stretches : (job : Job) (past : Past) (key : Option ℕ) → AreStretchesKept job past key None → AreStretchesOf job past key None
no_stretches job past None are = tt
no_stretches job past (Some k) are = absurd are

pub stretches_none : (job : Job) (before after : Past) (key : Option ℕ) → AreStretchesKept job before key None → AreStretchesKept job after key None
stretches_none job before after None are = tt
stretches_none job before after (Some k) are = absurd are

-- CALLS OF NO TASK

-- after these calls the tasks have accepted and given the same
pub record IsSameOfTasks (before after : Past) : Type 0 where
  pub calls : (task : ℕ) → task_calls task after ≡ task_calls task before
  pub given : (task : ℕ) → given_by after task ≡ given_by before task

same_stretches : (job : Job) (before after : Past) (key : Option ℕ) (kept : Option JobStretches) → IsSameOfTasks before after → AreStretchesKept job before key kept
    → AreStretchesKept job after key kept
same_stretches job before after None None same are = tt
same_stretches job before after (Some k) (Some kept) same are = kept_same (AreKeptOn k) job before after kept.tasks.items same.calls are
same_stretches job before after None (Some kept) same are = absurd are
same_stretches job before after (Some k) None same are = absurd are

pub same_kept : (job : Job) (key : Option ℕ) (before after : Past) (kept : ServingKept) → IsSameOfTasks before after → IsServingKept job key before kept
    → IsServingKept job key after kept
same_kept job key before after kept same are = record {
  stretches = same_stretches job before after key kept.stretches same are.stretches;
  handles = record {
    given = same_given before after job.tasks _ same.given are.handles.given;
    breaks = kept_same AreBreaks job before after kept.handles.tasks.items same.calls are.handles.breaks;
  };
}

nothing_more : (past after : Past) → after ≡ past → IsSameOfTasks past after
nothing_more past after same = subst (λ (p : Past). IsSameOfTasks past p) (sym same) (record { calls = λ task. refl; given = λ task. refl })

nobody_more : (at : ℕ) (ahead past : Past) → AllByRecursion (λ e. e.call ≡ grant_to_nobody at) ahead → IsSameOfTasks past (ahead ++ past)
nobody_more at [] past nobody = record { calls = λ task. refl; given = λ task. refl }
nobody_more at (e ∷ ahead) past nobody =
    let rest = nobody_more at ahead past nobody.1 in
    subst (λ (c : ClusterCall). IsSameOfTasks past (event c e.reply ∷ (ahead ++ past))) (sym nobody.0) (record { calls = rest.calls; given = rest.given })

taken_more : (granted : ℕ) (fault : Option RestoreFault) (numbers : KeptNumbers) (past after : Past) → IsTaken fault granted numbers past after → IsSameOfTasks past after
taken_more granted None numbers past after taken =
    let rest = nobody_more numbers.last taken.ahead past taken.nobody in
    subst (λ (p : Past). IsSameOfTasks past p) (sym taken.events) (record { calls = rest.calls; given = rest.given })
taken_more granted (Some fault) numbers past after taken = nothing_more past after taken

pub others_more : (job : Job) (past after : Past) (c : LoggedCall) (told : CallerReply) → is_single c ≡ false → StandsFor job past c told after → IsSameOfTasks past after
others_more job past after (Whole w) told others stands = absurd (cc)
others_more job past after (HearBare task grant at) told others stands = absurd (cc)
others_more job past after (LearnBare clerk generation) told others stands = absurd (cc)
others_more job past after (Restore numbers) told others stands = taken_more _ stands.fault numbers past after stands.taken
others_more job past after (Sample taken) told others stands = nothing_more past after stands.made

-- a call of a task that is refused
pub refused_more : (past : Past) (task : ℕ) (c : SliceletCall) (answer : ClusterReply) → is_accepted answer ≡ false
    → IsSameOfTasks past (event (call.Task task c) answer ∷ past)
refused_more past task c answer refused = record { calls = λ n. by_test n (task == n); given = λ n. refl }
  where
    by_test : (n : ℕ) (own : Bool) → (if own then (if is_accepted answer then c ∷ task_calls n past else task_calls n past) else task_calls n past) ≡ task_calls n past
    by_test n true = rw refused refl
    by_test n false = refl

-- a clerk learns an assignment
pub learn_more : (past : Past) (clerk generation : ℕ) (answer : ClusterReply) → IsSameOfTasks past (event (call_after past (LearnBare clerk generation)) answer ∷ past)
learn_more past clerk generation answer = record { calls = λ task. refl; given = λ task. refl }

-- HOW MANY PROCESSES

at_most : (accepted : Bool) (c : SliceletCall) (calls : List SliceletCall) → processes (if accepted then c ∷ calls else calls) ≤ processes calls + 1
at_most false c calls = omega arith
at_most true c calls = by_test (is_resume c)
  where
    by_test : (b : Bool) → (if b then processes calls + 1 else processes calls) ≤ processes calls + 1
    by_test true = omega arith
    by_test false = omega arith

one_more : (task : ℕ) (past : Past) (c : ClusterCall) (answer : ClusterReply) → processes (task_calls task (event c answer ∷ past)) ≤ processes (task_calls task past) + 1
one_more task past (call.Task by c) answer = by_test (by == task)
  where
    by_test : (own : Bool) → processes (if own then (if is_accepted answer then c ∷ task_calls task past else task_calls task past) else task_calls task past)
        ≤ processes (task_calls task past) + 1
    by_test true = at_most (is_accepted answer) c (task_calls task past)
    by_test false = omega arith
one_more task past _ answer = omega arith

same_more : (task : ℕ) (past after : Past) → IsSameOfTasks past after → processes (task_calls task after) ≤ processes (task_calls task past) + 1
same_more task past after same =
    subst (λ (calls : List SliceletCall). processes calls ≤ processes (task_calls task past) + 1) (sym (same.calls task))
    (let more : processes (task_calls task past) ≤ processes (task_calls task past) + 1 = omega arith in more)

line_more : (job : Job) (task : ℕ) (past after : Past) (c : LoggedCall) (told : CallerReply) → StandsFor job past c told after
    → processes (task_calls task after) ≤ processes (task_calls task past) + 1
line_more job task past after (Whole w) told s =
    subst (λ (p : Past). processes (task_calls task p) ≤ processes (task_calls task past) + 1) (sym s.made) (one_more task past w s.answer)
line_more job task past after (HearBare by grant at) told s =
    subst (λ (p : Past). processes (task_calls task p) ≤ processes (task_calls task past) + 1) (sym s.made) (one_more task past (call_after past (HearBare by grant at)) s.answer)
line_more job task past after (LearnBare clerk generation) told s =
    subst (λ (p : Past). processes (task_calls task p) ≤ processes (task_calls task past) + 1) (sym s.made) (one_more task past (call_after past (LearnBare clerk generation)) s.answer)
line_more job task past after (Restore numbers) told s = same_more task past after (taken_more _ s.fault numbers past after s.taken)
line_more job task past after (Sample taken) told s = same_more task past after (nothing_more past after s.made)

pub few_begin : (job : Job) (entries : List LogEntry) (past : Past) (task : ℕ) → AreCallsOf (from_start job) entries past
    → processes (task_calls task past) ≤ length entries
few_begin job [] past task calls = subst (λ (p : Past). processes (task_calls task p) ≤ 0) (sym calls) (let none : 0 ≤ 0 = omega arith in none)
few_begin job (entry ∷ entries) past task calls =
    let before = few_begin job entries calls.0 task calls.3 in
    let more = line_more job task calls.0 past entry.line.call calls.1 calls.2 in
    omega (arith, before, more)

module _ (job : Job) (entries : List LogEntry) (i : ℕ) (low : i < length entries) (past : Past) (calls : AreCallsOf (from_start job) (reverse (take i entries)) past) where
  -- no task began as many processes as 64 bits count
  pub few_before : length entries < 2 ^ 64 → HasFewProcesses past
  few_before fits task =
      let begun = few_begin job (reverse (take i entries)) past task calls in
      let many : length (reverse (take i entries)) ≡ i = length-reverse (take i entries) ∙ length-take-le i entries (omega (arith, low)) in
      omega (arith, begun, many, low, fits)

  pub calls_more : (entry : LogEntry) → entry ≡ get_or entries i entry → (told : CallerReply) (after : Past) → StandsFor job past entry.line.call told after
      → AreCallsOf (from_start job) (reverse (take (i + 1) entries)) after
  calls_more entry here told after stands =
      subst (λ (es : List LogEntry). AreCallsOf (from_start job) es after) (sym (one_more_entry entries i entry low here)) (past, told, stands, calls)
