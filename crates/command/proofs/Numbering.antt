-- The lines of replies with numbers, as a loop over them writes them.
use Rattle.std.proofs.Common.{◌≡◌, ℕ, ◌+◌, ◌≤◌, List, [], ◌∷◌, ◌++◌, length, drop, refl, sym, ap, ◌∙◌}
use Rattle.std.proofs.lemmas.List.{append-nil, drop_all}
use Rattle.world.specs.declared.step.Step.{Step}
use Rattle.replies.specs.declared.reply.Reply.{Reply}
use Rattle.command.specs.Runs.{numbered_lines}

-- the lines so far, and those of what is left from the place k on
abbrev pub lines_from : List ℕ → ℕ → List Step → List Reply → List ℕ
lines_from text k steps replies = text ++ numbered_lines (1 + k) (drop k steps) (drop k replies)

none_left : (place : ℕ) (steps : List Step) → numbered_lines place steps [] ≡ []
none_left place [] = refl
none_left place (s ∷ steps) = refl

pub is_done : (text : List ℕ) (k : ℕ) (steps : List Step) (replies : List Reply) (total : List ℕ)
    → length replies ≤ k → lines_from text k steps replies ≡ total → text ≡ total
is_done text k steps replies total le so_far =
    let none : drop k replies ≡ [] = drop_all k replies le in
    let nothing : numbered_lines (1 + k) (drop k steps) (drop k replies) ≡ [] = rw none (none_left (1 + k) (drop k steps)) in
    sym (append-nil text) ∙ sym (ap (λ (rest : List ℕ). text ++ rest) nothing) ∙ so_far
