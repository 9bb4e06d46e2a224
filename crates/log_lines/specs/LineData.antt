-- How a call at its ticket, with the words that its caller was told, is written as a line of a log.
use Rattle.std.specs.Prelude.{ℕ, List, [], ◌∷◌, codes}
use Rattle.serde_json.specs.Data.{Data, string}
use Rattle.grants.specs.declared.table_call.TableCall.{TableCall}
use Rattle.grants.specs.declared.table_call.TableCall.TheVariants.{JobTake, JobRenew, Propose, Commit, Grant, Free, Restart}
use Rattle.grants.specs.declared.slicelet_call.SliceletCall.{SliceletCall}
use Rattle.grants.specs.declared.slicelet_call.SliceletCall.TheVariants.{Start, Hear, Release, Resume}
use Rattle.clerk.specs.declared.call.ClerkCall.{ClerkCall}
use Rattle.clerk.specs.declared.call.ClerkCall.TheVariants.{Learn, Forget}
use Rattle.job_calls.specs.declared.call.ClusterCall.{ClusterCall}
use Rattle.job_calls.specs.declared.call.ClusterCall.TheVariants as call
use Rattle.wire.specs.declared.numerals.Numerals.TheVariants.{Either}
use Rattle.wire.specs.Assignments.{slice_data}
use Rattle.wire.specs.Grants.{grant_data}
use Rattle.wire.specs.Handles.{handle_data}
use Rattle.wire.specs.LeaseMembers.{kind_data}
use Rattle.wire.specs.Notes.{note_data}
use Rattle.wire.specs.Objects.{list_data, number_data, object_data}
use Rattle.log_line.specs.declared.line.BareGrant.{BareGrant}
use Rattle.log_line.specs.declared.line.LoggedCall.{LoggedCall}
use Rattle.log_line.specs.declared.line.LoggedCall.TheVariants.{Whole, HearBare, LearnBare, Restore, Sample}
use Rattle.log_line.specs.declared.line.TaskSample.{TaskSample}
use Rattle.log_line.specs.declared.restored.KeptNumbers.{KeptNumbers}

-- a call that has nothing more than its name
abbrev pub lone_data : List ℕ → ℕ → List ℕ → Data
lone_data name ticket reply = object_data
    ((codes "do", string name) ∷ (codes "reply", string reply) ∷ (codes "ticket", number_data ticket) ∷ [])

-- a call that is made under a term, by its name
abbrev pub term_data : List ℕ → ℕ → ℕ → ℕ → List ℕ → Data
term_data name ticket number at reply = object_data
    ((codes "at", number_data at) ∷ (codes "do", string name) ∷ (codes "reply", string reply) ∷ (codes "term", number_data number)
    ∷ (codes "ticket", number_data ticket) ∷ [])

-- a call of the table
abbrev pub table_data : ℕ → TableCall → List ℕ → Data
table_data ticket (JobTake assigner at) reply = object_data
    ((codes "assigner", number_data assigner) ∷ (codes "at", number_data at) ∷ (codes "do", string (codes "take"))
    ∷ (codes "reply", string reply) ∷ (codes "ticket", number_data ticket) ∷ [])
table_data ticket (JobRenew number at) reply = term_data (codes "renew") ticket number at reply
table_data ticket (Propose number slicing at) reply = object_data
    ((codes "at", number_data at) ∷ (codes "do", string (codes "propose")) ∷ (codes "generation", number_data slicing.generation)
    ∷ (codes "reply", string reply) ∷ (codes "slices", list_data (slice_data Either) slicing.slices)
    ∷ (codes "term", number_data number) ∷ (codes "ticket", number_data ticket) ∷ [])
table_data ticket (Commit number at) reply = term_data (codes "commit") ticket number at reply
table_data ticket (Grant task life at) reply = object_data
    ((codes "at", number_data at) ∷ (codes "do", string (codes "grant")) ∷ (codes "life", number_data life) ∷ (codes "reply", string reply)
    ∷ (codes "task", number_data task) ∷ (codes "ticket", number_data ticket) ∷ [])
table_data ticket (Free note at) reply = object_data
    ((codes "at", number_data at) ∷ (codes "do", string (codes "free")) ∷ (codes "note", note_data Either note) ∷ (codes "reply", string reply)
    ∷ (codes "ticket", number_data ticket) ∷ [])
table_data ticket Restart reply = lone_data (codes "lose") ticket reply

-- a grant that is heard, written so
abbrev pub heard_data : ℕ → ℕ → Data → ℕ → List ℕ → Data
heard_data ticket task grant at reply = object_data
    ((codes "at", number_data at) ∷ (codes "do", string (codes "hear")) ∷ (codes "grant", grant) ∷ (codes "reply", string reply)
    ∷ (codes "task", number_data task) ∷ (codes "ticket", number_data ticket) ∷ [])

-- a call of a task
abbrev pub task_data : ℕ → ℕ → SliceletCall → List ℕ → Data
task_data ticket task (Start life at) reply = object_data
    ((codes "at", number_data at) ∷ (codes "do", string (codes "start")) ∷ (codes "life", number_data life) ∷ (codes "reply", string reply)
    ∷ (codes "task", number_data task) ∷ (codes "ticket", number_data ticket) ∷ [])
task_data ticket task (Hear grant at) reply = heard_data ticket task (grant_data Either grant) at reply
task_data ticket task (Release kind at) reply = object_data
    ((codes "at", number_data at) ∷ (codes "do", string (codes "release")) ∷ (codes "kind", kind_data kind) ∷ (codes "reply", string reply)
    ∷ (codes "task", number_data task) ∷ (codes "ticket", number_data ticket) ∷ [])
task_data ticket task (Resume life) reply = object_data
    ((codes "do", string (codes "open")) ∷ (codes "life", number_data life) ∷ (codes "reply", string reply)
    ∷ (codes "task", number_data task) ∷ (codes "ticket", number_data ticket) ∷ [])

-- a call of a clerk
abbrev pub clerk_data : ℕ → ℕ → ClerkCall → List ℕ → Data
clerk_data ticket clerk (Learn slicing) reply = object_data
    ((codes "clerk", number_data clerk) ∷ (codes "do", string (codes "learn")) ∷ (codes "generation", number_data slicing.generation)
    ∷ (codes "reply", string reply) ∷ (codes "slices", list_data (slice_data Either) slicing.slices) ∷ (codes "ticket", number_data ticket) ∷ [])
clerk_data ticket clerk Forget reply = object_data
    ((codes "clerk", number_data clerk) ∷ (codes "do", string (codes "forget")) ∷ (codes "reply", string reply)
    ∷ (codes "ticket", number_data ticket) ∷ [])

-- a call that asks for a key, by its name
abbrev pub key_data : List ℕ → ℕ → ℕ → ℕ → ℕ → List ℕ → Data
key_data name ticket task key at reply = object_data
    ((codes "at", number_data at) ∷ (codes "do", string name) ∷ (codes "reply", string reply) ∷ (codes "slice_key", number_data key)
    ∷ (codes "task", number_data task) ∷ (codes "ticket", number_data ticket) ∷ [])

-- a call of the machines
abbrev pub machine_data : ℕ → ClusterCall → List ℕ → Data
machine_data ticket (call.Table made) reply = table_data ticket made reply
machine_data ticket (call.Task task made) reply = task_data ticket task made reply
machine_data ticket (call.Clerk clerk made) reply = clerk_data ticket clerk made reply
machine_data ticket call.Phase reply = lone_data (codes "phase") ticket reply
machine_data ticket call.Rows reply = lone_data (codes "rows") ticket reply
machine_data ticket (call.Serve task key at) reply = key_data (codes "serve") ticket task key at reply
machine_data ticket (call.Hold task key at) reply = key_data (codes "hold") ticket task key at reply
machine_data ticket (call.Check task handle at) reply = object_data
    ((codes "at", number_data at) ∷ (codes "do", string (codes "check")) ∷ (codes "handle", handle_data Either handle) ∷ (codes "reply", string reply)
    ∷ (codes "task", number_data task) ∷ (codes "ticket", number_data ticket) ∷ [])
machine_data ticket (call.Look clerk key) reply = object_data
    ((codes "clerk", number_data clerk) ∷ (codes "do", string (codes "look")) ∷ (codes "reply", string reply) ∷ (codes "slice_key", number_data key)
    ∷ (codes "ticket", number_data ticket) ∷ [])

-- a grant without its ranges
abbrev pub bare_data : BareGrant → Data
bare_data g = object_data
    ((codes "ends", number_data g.ends) ∷ (codes "generation", number_data g.generation) ∷ (codes "kind", kind_data g.kind)
    ∷ (codes "life", number_data g.life) ∷ (codes "number", number_data g.number) ∷ (codes "task", number_data g.task)
    ∷ (codes "until", number_data g.table_ends) ∷ [])

-- an assignment without its slices
abbrev pub bare_learn_data : ℕ → ℕ → ℕ → List ℕ → Data
bare_learn_data ticket clerk generation reply = object_data
    ((codes "clerk", number_data clerk) ∷ (codes "do", string (codes "learn")) ∷ (codes "generation", number_data generation)
    ∷ (codes "reply", string reply) ∷ (codes "ticket", number_data ticket) ∷ [])

-- a table that is restored
abbrev pub restore_data : ℕ → KeptNumbers → List ℕ → Data
restore_data ticket numbers reply = object_data
    ((codes "deadline", number_data numbers.deadline) ∷ (codes "do", string (codes "restore")) ∷ (codes "granted", number_data numbers.granted)
    ∷ (codes "last", number_data numbers.last) ∷ (codes "reply", string reply) ∷ (codes "ticket", number_data ticket) ∷ [])

-- a sample of a task's clock
abbrev pub sample_data : ℕ → TaskSample → List ℕ → Data
sample_data ticket taken reply = object_data
    ((codes "do", string (codes "sample")) ∷ (codes "now", number_data taken.now) ∷ (codes "reading", number_data taken.sample.reading)
    ∷ (codes "reply", string reply) ∷ (codes "sent", number_data taken.sample.sent) ∷ (codes "task", number_data taken.task)
    ∷ (codes "ticket", number_data ticket) ∷ [])

-- a line: its numbers are JSON numbers
abbrev pub line_data : ℕ → LoggedCall → List ℕ → Data
line_data ticket (Whole made) reply = machine_data ticket made reply
line_data ticket (HearBare task grant at) reply = heard_data ticket task (bare_data grant) at reply
line_data ticket (LearnBare clerk generation) reply = bare_learn_data ticket clerk generation reply
line_data ticket (Restore numbers) reply = restore_data ticket numbers reply
line_data ticket (Sample taken) reply = sample_data ticket taken reply
