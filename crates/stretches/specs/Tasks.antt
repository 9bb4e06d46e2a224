-- The stretches of each task of a job.
use Rattle.std.specs.Prelude.{◌≡◌, ℕ, ◌+◌, ◌<◌, List, [], ◌∷◌, ◌++◌, map, length, Some, slice_get}
use Rattle.std.specs.List.{slice_set}
use Rattle.grants.specs.declared.slicelet_call.SliceletCall.{SliceletCall}
use Rattle.job_calls.specs.Jobs.{Job}
use Rattle.cluster.specs.Pasts.{Past, task_calls}
use Rattle.stretches.specs.declared.stretch.Stretch.{Stretch}
use Rattle.stretches.specs.declared.key_stretches.KeyStretches.{KeyStretches}
use Rattle.stretches.specs.declared.job_stretches.JobStretches.{JobStretches}
use Rattle.stretches.specs.declared.job_handles.JobHandles.{JobHandles}
use Rattle.stretches.specs.declared.breaks.GivenHandle.{GivenHandle}
use Rattle.stretches.specs.declared.breaks.TaskHandles.{TaskHandles}
use Rattle.stretches.specs.Breaks.{AreBreaks, named}
use Rattle.stretches.specs.Stretches.{AreStretches, IsKept, processes}

-- there are so many, the first of number 1, and this holds of each
abbrev pub Each : {A : Type 0} → (ℕ → A → Type 0) → ℕ → List A → Type 0
Each holds many all = (length all ≡ many) × ((i : ℕ) (one : _) → slice_get all i ≡ Some one → holds (i + 1) one)

-- what is kept of each task of a job after a past
abbrev pub AreOf : {A : Type 0} → (ℕ → List SliceletCall → A → Type 0) → Job → Past → List A → Type 0
AreOf holds job past all = Each (λ task. holds task (task_calls task past)) job.tasks all

-- the stretches of a task on a key
abbrev pub AreKeptOn : ℕ → ℕ → List SliceletCall → KeyStretches → Type 0
AreKeptOn key task calls kept = (kept.key ≡ key) × IsKept calls kept

-- those of all tasks of a job
abbrev pub AreKept : Job → Past → ℕ → JobStretches → Type 0
AreKept job past key kept = AreOf (AreKeptOn key) job past kept.tasks.items

-- the handles of all tasks of a job, and when each breaks
abbrev pub AreWatched : Job → Past → JobHandles → Type 0
AreWatched job past kept = AreOf AreBreaks job past kept.tasks.items

-- for each task of a job, the readings at which each of its processes may serve a key
abbrev pub AreTaskStretches : Job → Past → ℕ → List (List Stretch) → Type 0
AreTaskStretches job past key tasks = Each (λ task. AreStretches key (task_calls task past)) job.tasks tasks

-- no task had as many processes as 64 bits count
abbrev pub HasFewProcesses : Past → Type 0
HasFewProcesses past = (task : ℕ) → processes (task_calls task past) < 18446744073709551615

-- the handles that each task gave, without when they break
abbrev pub names_of : List TaskHandles → List (List GivenHandle)
names_of tasks = map (λ kept. map named kept.handles.items) tasks

-- a task gave one more handle, and no other one did
abbrev pub IsGivenBy : ℕ → GivenHandle → List TaskHandles → List TaskHandles → Type 0
IsGivenBy task given before after = (place : ℕ) (kept : TaskHandles) → place + 1 ≡ task → slice_get before place ≡ Some kept
    → names_of after ≡ slice_set (names_of before) place (map named kept.handles.items ++ record given { process = kept.process } ∷ [])
