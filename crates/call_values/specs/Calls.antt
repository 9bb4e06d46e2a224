-- Calls of logs: `do`, and the members that the call has in a log. A request names its slice key.
use Rattle.std.specs.Prelude.{ℕ, List, [], ◌∷◌, codes}
use Rattle.serde_json.specs.Data.{Data, string}
use Rattle.assignment.specs.Slices.{Slicing}
use Rattle.grants.specs.declared.table_call.TableCall.{TableCall}
use Rattle.grants.specs.declared.table_call.TableCall.TheVariants.{JobTake, JobRenew, Propose, Commit, Grant, Free, Restart}
use Rattle.grants.specs.declared.slicelet_call.SliceletCall.{SliceletCall}
use Rattle.grants.specs.declared.slicelet_call.SliceletCall.TheVariants.{Start, Hear, Release, Resume}
use Rattle.clerk.specs.declared.call.ClerkCall.{ClerkCall}
use Rattle.clerk.specs.declared.call.ClerkCall.TheVariants.{Learn, Forget}
use Rattle.job_calls.specs.declared.call.ClusterCall.{ClusterCall}
use Rattle.job_calls.specs.declared.call.ClusterCall.TheVariants as call
use Rattle.wire.specs.declared.numerals.Numerals.TheVariants.{Quoted}
use Rattle.wire.specs.Assignments.{slice_data}
use Rattle.wire.specs.Grants.{grant_data}
use Rattle.wire.specs.Handles.{handle_data}
use Rattle.wire.specs.LeaseMembers.{kind_data}
use Rattle.wire.specs.Notes.{note_data}
use Rattle.wire.specs.Objects.{list_data, number_data, object_data}
use Rattle.log_line.specs.declared.line.BareGrant.{BareGrant}
use Rattle.log_line.specs.declared.line.LoggedCall.{LoggedCall}
use Rattle.log_line.specs.declared.line.LoggedCall.TheVariants.{Whole, HearBare, LearnBare, Restore, Sample}
use Rattle.log_line.specs.declared.line.TaskSample.{TaskSample}
use Rattle.log_line.specs.declared.restored.KeptNumbers.{KeptNumbers}
use Rattle.reply_values.specs.Values.{large_data}

-- a call, or a step, that has nothing more than its name
abbrev pub lone_data : List ℕ → Data
lone_data name = object_data ((codes "do", string name) ∷ [])

-- a call that is made under a term, by its name
abbrev pub term_call_data : List ℕ → ℕ → ℕ → Data
term_call_data name number at = object_data
    ((codes "at", large_data at) ∷ (codes "do", string name) ∷ (codes "term", large_data number) ∷ [])

-- a call of the table
abbrev pub table_call_data : TableCall → Data
table_call_data (JobTake assigner at) = object_data
    ((codes "assigner", large_data assigner) ∷ (codes "at", large_data at) ∷ (codes "do", string (codes "take")) ∷ [])
table_call_data (JobRenew number at) = term_call_data (codes "renew") number at
table_call_data (Propose number slicing at) = object_data
    ((codes "at", large_data at) ∷ (codes "do", string (codes "propose")) ∷ (codes "generation", large_data slicing.generation)
    ∷ (codes "slices", list_data (slice_data Quoted) slicing.slices) ∷ (codes "term", large_data number) ∷ [])
table_call_data (Commit number at) = term_call_data (codes "commit") number at
table_call_data (Grant task life at) = object_data
    ((codes "at", large_data at) ∷ (codes "do", string (codes "grant")) ∷ (codes "life", number_data life) ∷ (codes "task", number_data task) ∷ [])
table_call_data (Free note at) = object_data
    ((codes "at", large_data at) ∷ (codes "do", string (codes "free")) ∷ (codes "note", note_data Quoted note) ∷ [])
table_call_data Restart = lone_data (codes "lose")

-- a grant that is heard, written so
abbrev pub heard_data : ℕ → Data → ℕ → Data
heard_data task grant at = object_data
    ((codes "at", large_data at) ∷ (codes "do", string (codes "hear")) ∷ (codes "grant", grant) ∷ (codes "task", number_data task) ∷ [])

-- a call of a task
abbrev pub task_call_data : ℕ → SliceletCall → Data
task_call_data task (Start life at) = object_data
    ((codes "at", large_data at) ∷ (codes "do", string (codes "start")) ∷ (codes "life", number_data life) ∷ (codes "task", number_data task) ∷ [])
task_call_data task (Hear grant at) = heard_data task (grant_data Quoted grant) at
task_call_data task (Release kind at) = object_data
    ((codes "at", large_data at) ∷ (codes "do", string (codes "release")) ∷ (codes "kind", kind_data kind) ∷ (codes "task", number_data task) ∷ [])
task_call_data task (Resume life) = object_data
    ((codes "do", string (codes "open")) ∷ (codes "life", number_data life) ∷ (codes "task", number_data task) ∷ [])

-- a clerk learns an assignment
abbrev pub learnt_data : ℕ → Slicing → Data
learnt_data clerk slicing = object_data
    ((codes "clerk", number_data clerk) ∷ (codes "do", string (codes "learn")) ∷ (codes "generation", large_data slicing.generation)
    ∷ (codes "slices", list_data (slice_data Quoted) slicing.slices) ∷ [])

-- a call of a clerk
abbrev pub clerk_call_data : ℕ → ClerkCall → Data
clerk_call_data clerk (Learn slicing) = learnt_data clerk slicing
clerk_call_data clerk Forget = object_data ((codes "clerk", number_data clerk) ∷ (codes "do", string (codes "forget")) ∷ [])

-- a task is asked for a key, by the name of the call
abbrev pub key_data : List ℕ → ℕ → ℕ → ℕ → Data
key_data name task key at = object_data
    ((codes "at", large_data at) ∷ (codes "do", string name) ∷ (codes "slice_key", large_data key) ∷ (codes "task", number_data task) ∷ [])

-- a call of the machines
abbrev pub machine_data : ClusterCall → Data
machine_data (call.Table made) = table_call_data made
machine_data (call.Task task made) = task_call_data task made
machine_data (call.Clerk clerk made) = clerk_call_data clerk made
machine_data call.Phase = lone_data (codes "phase")
machine_data call.Rows = lone_data (codes "rows")
machine_data (call.Serve task key at) = key_data (codes "serve") task key at
machine_data (call.Hold task key at) = key_data (codes "hold") task key at
machine_data (call.Check task handle at) = object_data
    ((codes "at", large_data at) ∷ (codes "do", string (codes "check")) ∷ (codes "handle", handle_data Quoted handle) ∷ (codes "task", number_data task) ∷ [])
machine_data (call.Look clerk key) = object_data
    ((codes "clerk", number_data clerk) ∷ (codes "do", string (codes "look")) ∷ (codes "slice_key", large_data key) ∷ [])

-- a grant without its ranges
abbrev pub bare_data : BareGrant → Data
bare_data g = object_data
    ((codes "ends", large_data g.ends) ∷ (codes "generation", large_data g.generation) ∷ (codes "kind", kind_data g.kind)
    ∷ (codes "life", number_data g.life) ∷ (codes "number", large_data g.number) ∷ (codes "task", number_data g.task)
    ∷ (codes "until", large_data g.table_ends) ∷ [])

-- a clerk learns an assignment without its slices
abbrev pub bare_learnt_data : ℕ → ℕ → Data
bare_learnt_data clerk generation = object_data
    ((codes "clerk", number_data clerk) ∷ (codes "do", string (codes "learn")) ∷ (codes "generation", large_data generation) ∷ [])

-- a table is restored
abbrev pub restore_data : KeptNumbers → Data
restore_data kept = object_data
    ((codes "deadline", large_data kept.deadline) ∷ (codes "do", string (codes "restore")) ∷ (codes "granted", large_data kept.granted)
    ∷ (codes "last", large_data kept.last) ∷ [])

-- a task's clock takes a sample
abbrev pub sample_data : TaskSample → Data
sample_data taken = object_data
    ((codes "do", string (codes "sample")) ∷ (codes "now", large_data taken.now) ∷ (codes "reading", large_data taken.sample.reading)
    ∷ (codes "sent", large_data taken.sample.sent) ∷ (codes "task", number_data taken.task) ∷ [])

-- a call; of what it delivers it has as much as the log
abbrev pub call_data : LoggedCall → Data
call_data (Whole made) = machine_data made
call_data (HearBare task grant at) = heard_data task (bare_data grant) at
call_data (LearnBare clerk generation) = bare_learnt_data clerk generation
call_data (Restore kept) = restore_data kept
call_data (Sample taken) = sample_data taken
