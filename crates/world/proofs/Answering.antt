-- What a layer below answers is what the step is answered.
use Rattle.std.proofs.Common.{◌≡◌, ℕ, List, true, false, refl, sym, ◌∙◌, ap, inl, inr}
use Rattle.std.specs.Prelude.{Option, Some, None, Result, Ok, Err, is_ok, is_err}
use Rattle.machines.specs.Refusals.{unless_refused}
use Rattle.machines.specs.Numbers.{is_within}
use Rattle.world.specs.Jobs.{Job}
use Rattle.assignment.specs.declared.error.AssignmentError.{AssignmentError}
use Rattle.assignment.specs.Slices.{Slicing}
use Rattle.weighted_move.specs.declared.slice_plan.Plan.{Plan}
use Rattle.weighted_move.specs.declared.error.PlanError.{PlanError}
use Rattle.weighted_move.specs.Plans.{plan_refusal}
use Rattle.world.specs.declared.step.Step.{Step}
use Rattle.replies.specs.declared.reply.Refusal.{Refusal}
use Rattle.replies.specs.declared.reply.Refusal.TheVariants as refusal
use Rattle.replies.specs.declared.reply.Reply.{Reply}
use Rattle.replies.specs.declared.reply.Reply.TheVariants as reply
use Rattle.world.specs.Pasts.{event, Past, is_accepted}
use Rattle.world.specs.Calls.{call_of, calls_in}
use Rattle.world.specs.Replies.{Outcome, Plain, by_actor, from_layer, if_built, planned, plan_reply, reply_to}
use Rattle.world.specs.Runs.{IsReply, IsOutcome, takes_memory, needs_memory}
use Rattle.machines.specs.declared.machine.Trouble.{Trouble}
use Rattle.machines.specs.declared.machine.Trouble.TheVariants.{Refused, NoMemory}
use Rattle.machines.specs.Answers.{Takes, trouble_of}
use Rattle.world.specs.declared.world.World.{World}
use Rattle.world.specs.Troubles.{of_layer}
use Rattle.world.specs.Worlds.{Keeps, Played}

-- what an answered step answers
pub answer_is : {A E : Type 0} (o : Option E) (v w : A) → unless_refused o v ≡ Ok w → v ≡ w
answer_is None v w e = cc
answer_is (Some why) v w e = absurd (cc)

-- an actor of the job gives its answer
pub by_own : (number most : ℕ) (answer : Reply) → is_within number most ≡ true → by_actor number most answer ≡ answer
by_own number most answer e = rw e refl

-- a plan is refused whatever it would be
planned_alike : (o : Option PlanError) (plan other : Plan) → is_accepted (planned o plan) ≡ is_accepted (planned o other)
planned_alike None plan other = refl
planned_alike (Some why) plan other = refl

pub drafted_alike : (o : Option Slicing) (loads tasks : List ℕ) (plan other : Plan) → is_accepted (plan_reply o loads tasks plan) ≡ is_accepted (plan_reply o loads tasks other)
drafted_alike None loads tasks plan other = refl
drafted_alike (Some draft) loads tasks plan other = planned_alike (plan_refusal draft.slices loads tasks) plan other

-- a step is out of memory where its reply would need some
pub replied_without_memory : (job : Job) (past : Past) (s : Step) → takes_memory s ≡ true → ((outcome : Outcome) → needs_memory s (reply_to job past s outcome) ≡ needs_memory s (reply_to job past s Plain))
    → (answer : Reply) → reply_to job past s Plain ≡ answer → needs_memory s answer ≡ true → IsReply job past (event s reply.NoMemory)
replied_without_memory job past s takes alike answer e ok = inr (refl, takes, λ outcome. alike outcome ∙ (ap (needs_memory s) e ∙ ok))

-- a step that has no outcome
abbrev pub IsAlike : Job → Past → Step → Type 0
IsAlike job past s = (outcome : Outcome) → reply_to job past s outcome ≡ reply_to job past s Plain

module _ (job : Job) (past : Past) (s : Step) (told : IsOutcome job past s Plain) where
  -- the reply that the steps before give
  pub replied_as : (answer : Reply) → reply_to job past s Plain ≡ answer → IsReply job past (event s answer)
  replied_as answer e = inl (Plain, told, sym e)

  module _ {M A E : Type 0} (refused : E → Refusal) (name : A → Reply) (step : Result (M × A) E) (is : reply_to job past s Plain ≡ from_layer refused name step) where
    pub answers : (p : M × A) → step ≡ Ok p → IsReply job past (event s (name p.1))
    answers p e = replied_as (name p.1) (is ∙ ap (from_layer refused name) e)

    pub refuses : (why : E) → step ≡ Err why → IsReply job past (event s (reply.Refused (refused why)))
    refuses why e = replied_as (reply.Refused (refused why)) (is ∙ ap (from_layer refused name) e)

    pub out_of_memory : takes_memory s ≡ true → IsAlike job past s → ((x : A) → needs_memory s (name x) ≡ true) → is_ok step ≡ true → IsReply job past (event s reply.NoMemory)
    out_of_memory takes alike each ok = replied_without_memory job past s takes (λ outcome. ap (needs_memory s) (alike outcome)) (from_layer refused name step) is (accepted step ok)
      where
        accepted : (r : Result (M × A) E) → is_ok r ≡ true → needs_memory s (from_layer refused name r) ≡ true
        accepted (Ok p) e = each p.1
        accepted (Err why) e = absurd (let f : false ≡ true = e in cc)

-- a refusal of a layer below, or that it is out of memory, changes nothing
pub troubled : {M A E : Type 0} (job : Job) (past : Past) (s : Step) (world : World) (refused : E → Refusal) (name : A → Reply) (step : Result (M × A) E) (old new : M) (error : Trouble E)
    → IsOutcome job past s Plain → IsAlike job past s → is_err (call_of job past (calls_in job past) s) ≡ true → reply_to job past s Plain ≡ from_layer refused name step → takes_memory s ≡ true
    → ((x : A) → needs_memory s (name x) ≡ true)
    → Takes step old (Err error) new → (new ≡ old → Keeps job past world) → Played job past s (Err (of_layer refused error)) world
troubled job past s world refused name step old new (Refused why) told alike none is takes each h keeps = (keeps h.1, refuses job past s told refused name step is why h.0, none)
troubled job past s world refused name step old new NoMemory told alike none is takes each h keeps = (keeps h.1, out_of_memory job past s told refused name step is takes alike each h.0)

-- where the step itself is out of memory, the layer's refusal comes first
pub unmade : {M A E : Type 0} (job : Job) (past : Past) (s : Step) (world : World) (refused : E → Refusal) (name : A → Reply) (o : Option E) (p : M × A)
    → IsOutcome job past s Plain → IsAlike job past s → is_err (call_of job past (calls_in job past) s) ≡ true → reply_to job past s Plain ≡ from_layer refused name (unless_refused o p) → takes_memory s ≡ true
    → ((x : A) → needs_memory s (name x) ≡ true)
    → Keeps job past world → Played job past s (Err (of_layer refused (trouble_of o))) world
unmade {M = M} {A = A} {E = E} job past s world refused name None p told alike none is takes each k =
    let step : Result (M × A) E = Ok p in (k, out_of_memory job past s told refused name step is takes alike each refl)
unmade {M = M} {A = A} {E = E} job past s world refused name (Some why) p told alike none is takes each k =
    let step : Result (M × A) E = Err why in let same : step ≡ Err why = refl in (k, refuses job past s told refused name step is why same, none)

-- out of memory is told only where there is no refusal
pub no_refusal : {E : Type 0} (o : Option E) → NoMemory ≡ trouble_of o → o ≡ None
no_refusal None e = refl
no_refusal (Some why) e = absurd (cc)

-- where slices make no assignment, or there is no memory for it
pub unbuilt : (job : Job) (past : Past) (s : Step) (world : World) (o : Option AssignmentError) (answer : Reply)
    → IsOutcome job past s Plain → IsAlike job past s → is_err (call_of job past (calls_in job past) s) ≡ true → reply_to job past s Plain ≡ if_built o answer → takes_memory s ≡ true
    → needs_memory s answer ≡ true → Keeps job past world → Played job past s (Err (of_layer refusal.Slices (trouble_of o))) world
unbuilt job past s world None answer told alike none is takes need k = (k, replied_without_memory job past s takes (λ outcome. ap (needs_memory s) (alike outcome)) answer is need)
unbuilt job past s world (Some why) answer told alike none is takes need k = (k, replied_as job past s told (reply.Refused (refusal.Slices why)) is, none)
