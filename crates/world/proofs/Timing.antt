-- Timely steps make timely calls of the machines.
use Rattle.std.proofs.Common.{◌≡◌, ℕ, Bool, true, false, [], ◌∷◌, refl, sym, subst}
use Rattle.std.specs.Prelude.{Option, Some, None, Result, Ok, Err, map, if◌then◌else◌}
use Rattle.std.specs.List.{AllByRecursion}
use Rattle.machines.specs.Numbers.{is_within}
use Rattle.assignment.specs.declared.error.AssignmentError.{AssignmentError}
use Rattle.assignment.specs.Slices.{refusal_of}
use Rattle.job_calls.specs.declared.call.ClusterCall.{ClusterCall}
use Rattle.job_calls.specs.declared.timing.Reading.{Reading}
use Rattle.cluster.specs.Numbers.{with_number}
use Rattle.cluster.specs.Timing.{IsNear, IsTimely as AreTimely}
use Rattle.cluster.specs.Pasts.{Event as ClusterEvent, Past as ClusterPast, readings, grants, published}
use Rattle.job_calls.specs.Readings.{reading}
use Rattle.world.specs.Jobs.{Job}
use Rattle.world.specs.declared.step.Step.{Step}
use Rattle.world.specs.declared.step.Step.TheVariants as step
use Rattle.replies.specs.declared.reply.Reply.{Reply}
use Rattle.replies.specs.declared.reply.Reply.TheVariants as reply
use Rattle.replies.specs.declared.reply.Refusal.{Refusal}
use Rattle.replies.specs.declared.reply.Refusal.TheVariants as refusal
use Rattle.world.specs.Pasts.{Past, steps_of, reading as step_reading, IsTimely}
use Rattle.world.specs.Calls.{if_actor, if_sent, if_built, call_of, unless_out_of_memory, with_call, calls_in}

-- THE READINGS OF STEPS

-- a call reads the clock that its step reads
IsReadBy : Step → Result ClusterCall Refusal → Type 0
IsReadBy s (Err why) = Unit {0}
IsReadBy s (Ok made) = reading made ≡ step_reading s

actor_read : (s : Step) (number most : ℕ) (o : Result ClusterCall Refusal) → IsReadBy s o → IsReadBy s (if_actor number most o)
unfolding IsReadBy
actor_read s number most o read = by_test (is_within number most)
  where
    by_test : (b : Bool) → IsReadBy s (if b then o else Err refusal.NoActor)
    by_test true = read
    by_test false = tt

sent_read : {A : Type 0} (s : Step) (o : Option A) (deliver : A → ClusterCall) → ((x : A) → reading (deliver x) ≡ step_reading s) → IsReadBy s (if_sent o deliver)
unfolding IsReadBy
sent_read s None deliver read = tt
sent_read s (Some x) deliver read = read x

built_read : (s : Step) (o : Option AssignmentError) (made : ClusterCall) → reading made ≡ step_reading s → IsReadBy s (if_built o made)
unfolding IsReadBy
built_read s None made read = read
built_read s (Some why) made read = tt

call_read : (job : Job) (past : Past) (calls : ClusterPast) (s : Step) → IsReadBy s (call_of job past calls s)
unfolding IsReadBy
call_read job past calls (step.Take assigner at) = actor_read (step.Take assigner at) assigner job.assigners _ refl
call_read job past calls (step.Renew assigner at) = actor_read (step.Renew assigner at) assigner job.assigners _ refl
call_read job past calls (step.Propose assigner generation slices at) =
    actor_read (step.Propose assigner generation slices at) assigner job.assigners _ (built_read (step.Propose assigner generation slices at) (refusal_of slices) _ refl)
call_read job past calls (step.Commit assigner at) = actor_read (step.Commit assigner at) assigner job.assigners _ refl
call_read job past calls step.Phase = refl
call_read job past calls step.Rows = refl
call_read job past calls (step.Grant task life at) = actor_read (step.Grant task life at) task job.tasks _ refl
call_read job past calls (step.Free number at) = sent_read (step.Free number at) _ _ (λ note. refl)
call_read job past calls step.Lose = refl
call_read job past calls (step.Start task life at) = refl
call_read job past calls (step.Hear task number at) = actor_read (step.Hear task number at) task job.tasks _ (sent_read (step.Hear task number at) (with_number number (grants calls)) _ (λ grant. refl))
call_read job past calls (step.Release task kind at) = refl
call_read job past calls (step.Serve task key at) = refl
call_read job past calls (step.Hold task key at) = refl
call_read job past calls (step.Check task number at) = actor_read (step.Check task number at) task job.tasks _ (sent_read (step.Check task number at) _ _ (λ handle. refl))
call_read job past calls (step.Learn clerk generation) = actor_read (step.Learn clerk generation) clerk job.clerks _ (sent_read (step.Learn clerk generation) (published generation calls) _ (λ slicing. refl))
call_read job past calls (step.Look clerk key) = refl
call_read job past calls (step.Forget clerk) = refl
call_read job past calls _ = tt

-- TIMELY READINGS

module _ (P : Reading → Type 0) where
  all_more : (answer : Reply) (e : ClusterEvent) (calls : ClusterPast) → P (reading e.call) → AllByRecursion P (readings calls) → AllByRecursion P (readings (unless_out_of_memory answer e calls))
  all_more reply.NoMemory e calls p all = all
  all_more _ e calls p all = (p, all)

  all_with : (s : Step) (answer : Reply) (o : Result ClusterCall Refusal) (calls : ClusterPast) → IsReadBy s o → P (step_reading s)
      → AllByRecursion P (readings calls) → AllByRecursion P (readings (with_call answer o calls))
  unfolding IsReadBy
  all_with s answer (Err why) calls read p all = all
  all_with s answer (Ok made) calls read p all = all_more answer _ calls (subst P (sym read) p) all

  -- what holds of the readings of the steps holds of those of the calls
  pub all_called : (job : Job) (past : Past) → AllByRecursion P (map step_reading (steps_of past)) → AllByRecursion P (readings (calls_in job past))
  all_called job [] all = tt
  all_called job (e ∷ past) all =
      all_with e.step e.reply (call_of job past (calls_in job past) e.step) (calls_in job past) (call_read job past (calls_in job past) e.step) all.0 (all_called job past all.1)

module _ (skew : ℕ) where
  timely_more : (answer : Reply) (e : ClusterEvent) (calls : ClusterPast) → AllByRecursion (IsNear skew (reading e.call)) (readings calls)
      → AreTimely skew (readings calls) → AreTimely skew (readings (unless_out_of_memory answer e calls))
  timely_more reply.NoMemory e calls near timely = timely
  timely_more _ e calls near timely = (near, timely)

  timely_with : (s : Step) (answer : Reply) (o : Result ClusterCall Refusal) (calls : ClusterPast) → IsReadBy s o → AllByRecursion (IsNear skew (step_reading s)) (readings calls)
      → AreTimely skew (readings calls) → AreTimely skew (readings (with_call answer o calls))
  unfolding IsReadBy
  timely_with s answer (Err why) calls read near timely = timely
  timely_with s answer (Ok made) calls read near timely =
      timely_more answer _ calls (subst (λ (x : Reading). AllByRecursion (IsNear skew x) (readings calls)) (sym read) near) timely

  pub timely_calls : (job : Job) (past : Past) → IsTimely skew (steps_of past) → AreTimely skew (readings (calls_in job past))
  timely_calls job [] timely = tt
  timely_calls job (e ∷ past) timely =
      timely_with e.step e.reply (call_of job past (calls_in job past) e.step) (calls_in job past) (call_read job past (calls_in job past) e.step)
      (all_called (IsNear skew (step_reading e.step)) job past timely.0) (timely_calls job past timely.1)
