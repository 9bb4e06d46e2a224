-- No line follows where the steps or the lines have ended.
use Rattle.std.proofs.Common.{◌≡◌, ℕ, ◌<◌, ◌≤◌, ◌⊎◌, inl, inr, min, List, [], ◌∷◌, length, drop, refl, arith}
use Rattle.std.proofs.lemmas.Bool.{cases_order}
use Rattle.std.proofs.lemmas.List.{drop_all}
use Rattle.world.specs.declared.step.Step.{Step}
use Rattle.script_trace.specs.declared.line.TraceLine.{TraceLine}
use Rattle.trace_text.specs.Calls.{call_lines}

no_lines : (steps : List Step) → call_lines steps [] ≡ []
no_lines [] = refl
no_lines (step ∷ steps) = refl

no_steps : (lines : List TraceLine) → call_lines [] lines ≡ []
no_steps [] = refl
no_steps (line ∷ lines) = refl

after_steps : (n : ℕ) (steps : List Step) (lines : List TraceLine) → length steps ≤ n → call_lines (drop n steps) (drop n lines) ≡ []
after_steps n steps lines done = rw (drop_all n steps done) (no_steps (drop n lines))

after_lines : (n : ℕ) (steps : List Step) (lines : List TraceLine) → length lines ≤ n → call_lines (drop n steps) (drop n lines) ≡ []
after_lines n steps lines done = rw (drop_all n lines done) (no_lines (drop n steps))

at_end : (n : ℕ) (steps : List Step) (lines : List TraceLine) → n ≡ min (length steps) (length lines)
    → (length steps ≡ length lines) ⊎ ((length steps < length lines) ⊎ (length lines < length steps))
    → call_lines (drop n steps) (drop n lines) ≡ []
at_end n steps lines is (inl same) = after_steps n steps lines (omega arith)
at_end n steps lines is (inr (inl fewer)) = after_steps n steps lines (omega arith)
at_end n steps lines is (inr (inr more)) = after_lines n steps lines (omega arith)

pub lines_end : (n : ℕ) (steps : List Step) (lines : List TraceLine) → n ≡ min (length steps) (length lines)
    → call_lines (drop n steps) (drop n lines) ≡ []
lines_end n steps lines is = at_end n steps lines is (cases_order (length steps) (length lines))
