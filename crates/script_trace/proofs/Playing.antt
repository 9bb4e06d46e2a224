-- One more step of a script.
use Rattle.std.proofs.Common.{◌≡◌, ◌∙◌, ℕ, ◌+◌, ◌<◌, List, [], ◌∷◌, ◌++◌, length, get_or, take, refl, sym, subst, ap, arith}
use Rattle.std.specs.Prelude.{reverse}
use Rattle.std.proofs.lemmas.List.{take_more, reverse-append}
use Rattle.replies.specs.declared.reply.Reply.{Reply}
use Rattle.world.specs.Jobs.{Job}
use Rattle.world.specs.declared.step.Step.{Step}
use Rattle.world.specs.declared.world.World.{World}
use Rattle.world.specs.Pasts.{Past, event, steps_of}
use Rattle.world.specs.Runs.{past_after}
use Rattle.world.specs.Worlds.{LeadsTo}
use Rattle.script_trace.specs.declared.line.TraceLine.{TraceLine}
use Rattle.script_trace.specs.Lines.{AreLines, IsLine}

one_reply : (replies rest : List Reply) (r : Reply) → length replies ≡ 1 → replies ≡ rest ++ r ∷ [] → replies ≡ r ∷ []
one_reply replies [] r many is = is
one_reply replies (a ∷ []) r many is = absurd (let len = ap (λ (l : List Reply). length l) is in omega (arith, len, many))
one_reply replies (a ∷ b ∷ rest) r many is = absurd (let len = ap (λ (l : List Reply). length l) is in omega (arith, len, many))

-- the past after a step that was played alone
pub led_one : (job : Job) (past : Past) (steps : List Step) (s : Step) (replies rest : List Reply) (r : Reply) (world : World) → steps ≡ s ∷ []
    → length replies ≡ length steps → replies ≡ rest ++ r ∷ [] → LeadsTo job (past_after past steps replies) world → LeadsTo job (event s r ∷ past) world
led_one job past steps s replies rest r world one many items leads =
    let only = one_reply replies rest r (many ∙ ap (λ (l : List Step). length l) one) items in
    subst (λ (rs : List Reply). LeadsTo job (past_after past (s ∷ []) rs) world) only
    (subst (λ (ss : List Step). LeadsTo job (past_after past ss replies) world) one leads)

-- the steps up to one more, the last one first
pub one_more : (steps : List Step) (i : ℕ) (s : Step) (past : Past) (r : Reply) → i < length steps → s ≡ get_or steps i s
    → steps_of past ≡ reverse (take i steps) → steps_of (event s r ∷ past) ≡ reverse (take (i + 1) steps)
one_more steps i s past r inside is played =
    ap (λ (before : List Step). s ∷ before) played
    ∙ ap (λ (x : Step). x ∷ reverse (take i steps)) is ∙ sym (reverse-append (take i steps) (get_or steps i s ∷ []))
    ∙ ap (λ (xs : List Step). reverse xs) (sym (take_more steps i s inside))

-- the lines up to one more, the last one first
pub lines_more : (job : Job) (past : Past) (s : Step) (lines : List TraceLine) (line : TraceLine) → IsLine job past s line → AreLines job past (reverse lines)
    → AreLines job (event s line.reply ∷ past) (reverse (lines ++ line ∷ []))
lines_more job past s lines line is are =
    subst (λ (all : List TraceLine). AreLines job (event s line.reply ∷ past) all) (sym (reverse-append lines (line ∷ []))) (refl, is, are)
