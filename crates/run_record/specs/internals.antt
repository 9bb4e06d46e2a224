-- What one call makes of an actor.
use Rattle.std.specs.Prelude.{[], ◌∷◌, ◌++◌, Option, Result, Ok, Err}
use Rattle.assignment.specs.Slices.{Slicing}
use Rattle.grants.specs.declared.slicelet_call.SliceletCall.{SliceletCall}
use Rattle.grants.specs.declared.slicelet_call.SliceletCall.TheVariants.{Start, Hear, Release, Resume}
use Rattle.clerk.specs.declared.call.ClerkCall.{ClerkCall}
use Rattle.clerk.specs.Calls.{clerk_step}
use Rattle.job_calls.specs.declared.snapshot.TaskSnapshot.{TaskSnapshot}

-- a task before its first call
abbrev pub new_task : TaskSnapshot
new_task = record { life = 0; calls = [] }

-- a task after an accepted call; its process has one call more, and a new process begins with none
abbrev pub with_call : SliceletCall → TaskSnapshot → TaskSnapshot
with_call c task = record { life = task.life; calls = task.calls ++ c ∷ [] }

abbrev pub task_after : SliceletCall → TaskSnapshot → TaskSnapshot
task_after (Start life at) task = with_call (Start life at) task
task_after (Hear grant at) task = with_call (Hear grant at) task
task_after (Release kind at) task = with_call (Release kind at) task
task_after (Resume life) task = record { life = life; calls = [] }

-- what a step leaves; where it is refused, what it found
abbrev pub left_by : {M R E : Type 0} → M → Result (M × R) E → M
left_by before (Ok p) = p.0
left_by before (Err why) = before

-- a clerk after a call
abbrev pub clerk_after : ClerkCall → Option Slicing → Option Slicing
clerk_after c before = left_by before (clerk_step before c)
