-- The calls of which a line may be, by the numbers that C passes. A number never changes its meaning.
use Rattle.std.specs.Prelude.{ℕ, List, [], ◌∷◌, Option}
use Rattle.log_lines.specs.declared.call_name.CallName.{CallName}
use Rattle.log_lines.specs.declared.call_name.CallName.TheVariants.{Table, Phase, Restore, Open, Task, Serve, Hold, Check, Learn, Look, Forget, Sample}
use Rattle.log_lines.specs.declared.call_name.TableCallName.TheVariants as table
use Rattle.log_lines.specs.declared.call_name.TaskCallName.TheVariants as task
use Rattle.log_lines.specs.Coded.{coded}

abbrev pub call_numbers : List (ℕ × CallName)
call_numbers =
    (1, Table table.Take) ∷
    (2, Table table.Renew) ∷
    (3, Table table.Propose) ∷
    (4, Table table.Commit) ∷
    (5, Table table.Grant) ∷
    (6, Table table.Free) ∷
    (7, Table table.Lose) ∷
    (8, Phase) ∷
    (9, Restore) ∷
    (10, Open) ∷
    (11, Task task.Start) ∷
    (12, Task task.Hear) ∷
    (13, Task task.Release) ∷
    (14, Serve) ∷
    (15, Hold) ∷
    (16, Check) ∷
    (17, Learn) ∷
    (18, Look) ∷
    (19, Forget) ∷
    (20, Sample) ∷ []

-- the call with a number, if there is one
abbrev pub call_named : ℕ → Option CallName
call_named number = coded call_numbers number
