-- What follows the calls: stretches and handles.
use Rattle.std.specs.Prelude.{ℕ, ◌+◌, List, [], ◌∷◌, ◌++◌, flat_map, Option, Some, None}
use Rattle.stretches.specs.declared.breaks.TaskHandles.{TaskHandles}
use Rattle.stretches.specs.declared.job_handles.JobHandles.{JobHandles}
use Rattle.stretches.specs.declared.stretch.Stretch.{Stretch}
use Rattle.reason_values.specs.Lines.{line_text}
use Rattle.reason_values.specs.Stretches.{broken_data, stretch_data}

-- a line for each stretch of a task
abbrev pub task_stretch_lines : ℕ → List Stretch → List ℕ
task_stretch_lines task [] = []
task_stretch_lines task (stretch ∷ stretches) = line_text (stretch_data task stretch) ++ task_stretch_lines task stretches

-- those of the tasks that follow this one, in their order
abbrev pub stretch_lines_after : ℕ → List (List Stretch) → List ℕ
stretch_lines_after task [] = []
stretch_lines_after task (stretches ∷ tasks) = task_stretch_lines (task + 1) stretches ++ stretch_lines_after (task + 1) tasks

-- those of all tasks, if there is a key
abbrev pub stretch_lines : Option (List (List Stretch)) → List ℕ
stretch_lines None = []
stretch_lines (Some tasks) = stretch_lines_after 0 tasks

-- a line for each handle that a task gave
abbrev pub task_handle_lines : TaskHandles → List ℕ
task_handle_lines kept = flat_map (λ given. line_text (broken_data given)) kept.handles.items

abbrev pub handle_lines : JobHandles → List ℕ
handle_lines kept = flat_map task_handle_lines kept.tasks.items
