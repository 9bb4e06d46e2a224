-- What an allowed `serve` says of the task that was answered.
use Rattle.std.proofs.Common.{◌≡◌, ℕ, true, List, [], ◌∷◌, length, slice_index_or, subst, arith}
use Rattle.world.specs.Jobs.{Job}
use Rattle.world.specs.declared.step.Step.TheVariants as step
use Rattle.replies.specs.declared.reply.Reply.{Reply}
use Rattle.world.specs.Pasts.{Past, steps_of, IsTimely}
use Rattle.world.specs.Runs.{IsRun, past_after}
use Rattle.world.specs.Headline.{MayServe, is_served}
use Rattle.world.proofs.Ruling.{served_by_rule}

-- where a run of one step has one reply, which lets the task serve, the task might serve
pub served_alone : (job : Job) (past : Past) (task : ℕ) (key : List ℕ) (at : ℕ) (answer : Reply) (replies : List Reply) → length replies ≡ 1
    → answer ≡ slice_index_or replies 0 answer → is_served answer ≡ true → IsRun job (past_after past (step.Serve task key at ∷ []) replies)
    → IsTimely job.policy.skew (step.Serve task key at ∷ steps_of past) → MayServe job past task key
served_alone job past task key at answer [] one is served run timely = absurd (let e : 0 ≡ 1 = one in omega (arith, e))
served_alone job past task key at answer (r ∷ []) one is served run timely =
    (at, timely, (served_by_rule job past task key at r run).served.0 (let P : Reply → Type 0 = λ x. is_served x ≡ true in subst P is served))
served_alone job past task key at answer (r ∷ s ∷ rest) one is served run timely = absurd (let e : length (r ∷ s ∷ rest) ≡ 1 = one in omega (arith, e))
