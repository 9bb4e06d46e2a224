-- Steps: `do`, and the members that the step has in a script. A step that no machine takes has `do` alone.
use Rattle.std.specs.Prelude.{ℕ, List, [], ◌∷◌, codes, Option}
use Rattle.std.specs.Str.Lossy.{utf8_lossy}
use Rattle.serde_json.specs.Data.{Data, string}
use Rattle.slice_ranges.specs.Hash.{slice_key}
use Rattle.assignment.specs.declared.slice.Slice.{Slice}
use Rattle.grants.specs.declared.slicelet_call.SliceletCall.{SliceletCall}
use Rattle.grants.specs.declared.slicelet_call.SliceletCall.TheVariants as task_call
use Rattle.clerk.specs.declared.call.ClerkCall.TheVariants as clerk_call
use Rattle.job_calls.specs.declared.call.ClusterCall.TheVariants as call
use Rattle.log_line.specs.declared.line.LoggedCall.TheVariants.{LearnBare, Whole}
use Rattle.wire.specs.declared.numerals.Numerals.TheVariants.{Quoted}
use Rattle.wire.specs.Assignments.{slice_data}
use Rattle.wire.specs.Objects.{list_data, number_data, object_data}
use Rattle.world.specs.declared.step.Step.{Step}
use Rattle.world.specs.declared.step.Step.TheVariants.{Check, Commit, Forget, Free, Grant, Hear, Hold, Learn, Look, Lose, Phase, Propose, Release, Renew, Rows, Serve, Start, Take}
use Rattle.call_values.specs.Calls.{call_data, lone_data}
use Rattle.reply_values.specs.Answered.{with_member_if}
use Rattle.reply_values.specs.Values.{large_data}
use Rattle.call_values.specs.Words.{step_word}

-- a step of a task that a log has in the same form
abbrev pub logged_data : ℕ → SliceletCall → Data
logged_data task made = call_data (Whole (call.Task task made))

-- an assigner acts under the term that it keeps
abbrev pub assigner_data : List ℕ → ℕ → ℕ → Data
assigner_data name assigner at = object_data
    ((codes "assigner", large_data assigner) ∷ (codes "at", large_data at) ∷ (codes "do", string name) ∷ [])

-- an assigner proposes slices
abbrev pub proposed_data : ℕ → ℕ → List Slice → ℕ → Data
proposed_data assigner generation slices at = object_data
    ((codes "assigner", large_data assigner) ∷ (codes "at", large_data at) ∷ (codes "do", string (codes "propose"))
    ∷ (codes "generation", large_data generation) ∷ (codes "slices", list_data (slice_data Quoted) slices) ∷ [])

-- a task gets what is delivered by its number, by the name of the step
abbrev pub delivery_data : List ℕ → ℕ → ℕ → ℕ → Data
delivery_data name task number at = object_data
    ((codes "at", large_data at) ∷ (codes "do", string name) ∷ (codes "number", large_data number) ∷ (codes "task", number_data task) ∷ [])

-- the text of a key, which a script has as a text
abbrev pub key_text : List ℕ → Data
key_text key = string (utf8_lossy key)

-- a task is asked for a key, by the name of the step
abbrev pub asked_data : List ℕ → ℕ → List ℕ → ℕ → Data
asked_data name task key at = object_data
    ((codes "at", large_data at) ∷ (codes "do", string name) ∷ (codes "key", key_text key) ∷ (codes "slice_key", large_data (slice_key key))
    ∷ (codes "task", number_data task) ∷ [])

-- a step without what it delivers
abbrev pub alone_data : Step → Data
alone_data (Take assigner at) = assigner_data (codes "take") assigner at
alone_data (Renew assigner at) = assigner_data (codes "renew") assigner at
alone_data (Propose assigner generation slices at) = proposed_data assigner generation slices at
alone_data (Commit assigner at) = assigner_data (codes "commit") assigner at
alone_data (Grant task life at) = object_data
    ((codes "at", large_data at) ∷ (codes "do", string (codes "grant")) ∷ (codes "life", number_data life) ∷ (codes "task", number_data task) ∷ [])
alone_data (Free note at) = object_data
    ((codes "at", large_data at) ∷ (codes "do", string (codes "free")) ∷ (codes "number", large_data note) ∷ [])
alone_data (Start task life at) = logged_data task (task_call.Start life at)
alone_data (Hear task number at) = delivery_data (codes "hear") task number at
alone_data (Release task kind at) = logged_data task (task_call.Release kind at)
alone_data (Serve task key at) = asked_data (codes "serve") task key at
alone_data (Hold task key at) = asked_data (codes "hold") task key at
alone_data (Check task handle at) = delivery_data (codes "check") task handle at
alone_data (Learn clerk generation) = call_data (LearnBare clerk generation)
alone_data (Look clerk key) = object_data
    ((codes "clerk", number_data clerk) ∷ (codes "do", string (codes "look")) ∷ (codes "key", key_text key) ∷ (codes "slice_key", large_data (slice_key key)) ∷ [])
alone_data (Forget clerk) = call_data (Whole (call.Clerk clerk clerk_call.Forget))
alone_data step = lone_data (step_word step)

-- with what the step delivers by its number, if that was made, named by the step
abbrev pub with_sent : Step → Option Data → Data → Data
with_sent (Free note at) sent d = with_member_if (codes "note") sent d
with_sent (Hear task number at) sent d = with_member_if (codes "grant") sent d
with_sent (Check task handle at) sent d = with_member_if (codes "handle") sent d
with_sent step sent d = d

-- a step, with what it delivers
abbrev pub step_data : Step → Option Data → Data
step_data step sent = with_sent step sent (alone_data step)
