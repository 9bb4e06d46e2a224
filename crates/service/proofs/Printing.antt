-- What a printed text tells of the clocks.
use Rattle.std.proofs.Common.{◌≡◌, ℕ, Bool, true, false, MatchBool, List, [], ◌∷◌, length, refl, subst, sym}
use mathlib.Core.List.{reverse_aux}
use Rattle.world.specs.declared.step.Step.{Step}
use Rattle.replies.specs.declared.reply.Reply.{Reply}
use Rattle.world.specs.Pasts.{Past, event, steps_of, IsTimely}
use Rattle.world.specs.Runs.{past_after}
use Rattle.service.specs.declared.script.Script.{Script}
use Rattle.service.specs.Output.{past_of, IsOutput}

-- the steps of a past that goes on with these
steps_told : (past : Past) (steps : List Step) (replies : List Reply) → length replies ≡ length steps
    → steps_of (past_after past steps replies) ≡ reverse_aux steps (steps_of past)
steps_told past [] [] many = refl
steps_told past [] (r ∷ replies) many = absurd (cc)
steps_told past (s ∷ steps) [] many = absurd (cc)
steps_told past (s ∷ steps) (r ∷ replies) many = steps_told (event s r ∷ past) steps replies (cc)

said : (timely : Bool) (Yes No : Type 0) → timely ≡ true → MatchBool timely Yes No → Yes
said true Yes No is m = m
said false Yes No is m = absurd (cc)

-- where the last line is that the steps are timely, they are
pub timely_told : (script : Script) (text : List ℕ) (output : IsOutput script text) → output.timely ≡ true
    → IsTimely script.job.policy.skew (steps_of (past_of script output.replies))
timely_told script text output is =
    let timely = said output.timely _ _ is output.by_readings in
    subst (IsTimely script.job.policy.skew) (sym (steps_told [] script.steps output.replies output.many)) timely
