-- Calls that a line of a log has in a form of its own: those that no message has, and those of which it may leave a part out.
use Rattle.std.specs.Prelude.{ℕ, List, [], ◌∷◌, codes, is_some, Result, Ok, if◌then◌else◌}
use Rattle.serde_json.specs.Data.{Data}
use Rattle.serde_json.specs.Find.{get}
use Rattle.grants.specs.declared.slicelet_call.SliceletCall.TheVariants as task_call
use Rattle.clerk.specs.declared.call.ClerkCall.TheVariants.{Learn}
use Rattle.job_calls.specs.declared.call.ClusterCall.TheVariants as call
use Rattle.program_io.specs.declared.fault.WrongForm.{WrongForm}
use Rattle.program_io.specs.Reading.{◌>>=◌, ◌>>◌}
use Rattle.program_io.specs.Members.{exactly, member_at, number_at}
use Rattle.wire.specs.declared.fault.DecodeRefusal.{DecodeRefusal}
use Rattle.wire.specs.declared.numerals.Numerals.TheVariants.{Either}
use Rattle.wire.specs.Assignments.{slicing_in}
use Rattle.wire.specs.Grants.{grant_of}
use Rattle.wire.specs.Handles.{handle_of}
use Rattle.wire.specs.LeaseMembers.{kind_at, life_at, task_at}
use Rattle.wire.specs.Numerals.{numeral_at}
use Rattle.wire.specs.Refusals.{or_wrong}
use Rattle.log_line.specs.Keys.{key_name, slice_key_in}
use Rattle.log_line.specs.declared.line.BareGrant.{BareGrant}
use Rattle.log_line.specs.declared.line.LoggedCall.{LoggedCall}
use Rattle.log_line.specs.declared.line.LoggedCall.TheVariants.{Whole, HearBare, LearnBare, Restore, Sample}

-- a `phase` has nothing more
unfoldable pub phase_line : Data → Result LoggedCall DecodeRefusal
phase_line d = do
  or_wrong (exactly (codes "ticket" ∷ codes "reply" ∷ codes "do" ∷ []) d)
  Ok (Whole call.Phase)

-- a `rows` has nothing more
unfoldable pub rows_line : Data → Result LoggedCall DecodeRefusal
rows_line d = do
  or_wrong (exactly (codes "ticket" ∷ codes "reply" ∷ codes "do" ∷ []) d)
  Ok (Whole call.Rows)

-- a `restore` has kept values of the table, as its message has them
unfoldable pub restore_line : Data → Result LoggedCall DecodeRefusal
restore_line d = do
  or_wrong (exactly (codes "ticket" ∷ codes "reply" ∷ codes "do" ∷ codes "last" ∷ codes "granted" ∷ codes "deadline" ∷ []) d)
  last ← or_wrong (numeral_at Either (codes "last") d)
  granted ← or_wrong (numeral_at Either (codes "granted") d)
  deadline ← or_wrong (numeral_at Either (codes "deadline") d)
  Ok (Restore (record { last = last; granted = granted; deadline = deadline }))

-- a grant without the ranges of its lease
unfoldable pub bare_grant_of : Data → Result BareGrant WrongForm
bare_grant_of d = do
  exactly (codes "ends" ∷ codes "generation" ∷ codes "kind" ∷ codes "life" ∷ codes "number" ∷ codes "task" ∷ codes "until" ∷ []) d
  number ← numeral_at Either (codes "number") d
  task ← task_at (codes "task") d
  life ← life_at (codes "life") d
  kind ← kind_at (codes "kind") d
  generation ← numeral_at Either (codes "generation") d
  ends ← numeral_at Either (codes "ends") d
  until ← numeral_at Either (codes "until") d
  Ok (record { number = number; task = task; life = life; kind = kind; generation = generation; ends = ends; table_ends = until })

-- a task hears a grant, of which the ranges may be left out
abbrev pub whole_heard : ℕ → ℕ → Data → Result LoggedCall DecodeRefusal
whole_heard task at d = do
  grant ← grant_of Either d
  Ok (Whole (call.Task task (task_call.Hear grant at)))

abbrev pub bare_heard : ℕ → ℕ → Data → Result LoggedCall DecodeRefusal
bare_heard task at d = do
  grant ← or_wrong (bare_grant_of d)
  Ok (HearBare task grant at)

unfoldable pub heard_of : ℕ → ℕ → Data → Result LoggedCall DecodeRefusal
heard_of task at d = if is_some (get (codes "ranges") d) then whole_heard task at d else bare_heard task at d

-- an `open` has a task and a life of it, the greatest one that it ever started
unfoldable pub open_line : Data → Result LoggedCall DecodeRefusal
open_line d = do
  or_wrong (exactly (codes "ticket" ∷ codes "reply" ∷ codes "do" ∷ codes "task" ∷ codes "life" ∷ []) d)
  task ← or_wrong (number_at (codes "task") d)
  life ← or_wrong (life_at (codes "life") d)
  Ok (Whole (call.Task task (task_call.Resume life)))

-- a `hear` has a task, a grant and a reading
unfoldable pub hear_line : Data → Result LoggedCall DecodeRefusal
hear_line d = do
  or_wrong (exactly (codes "ticket" ∷ codes "reply" ∷ codes "do" ∷ codes "task" ∷ codes "grant" ∷ codes "at" ∷ []) d)
  task ← or_wrong (number_at (codes "task") d)
  at ← or_wrong (numeral_at Either (codes "at") d)
  grant ← or_wrong (member_at (codes "grant") d)
  heard_of task at grant

-- a `sample` has a task, and what its clock takes: its local reading when the request was sent, the table's in the answer, and the local one now
unfoldable pub sample_line : Data → Result LoggedCall DecodeRefusal
sample_line d = do
  or_wrong (exactly (codes "ticket" ∷ codes "reply" ∷ codes "do" ∷ codes "task" ∷ codes "sent" ∷ codes "reading" ∷ codes "now" ∷ []) d)
  task ← or_wrong (number_at (codes "task") d)
  sent ← or_wrong (numeral_at Either (codes "sent") d)
  reading ← or_wrong (numeral_at Either (codes "reading") d)
  now ← or_wrong (numeral_at Either (codes "now") d)
  Ok (Sample (record { task = task; sample = record { sent = sent; reading = reading }; now = now }))

-- a `serve` has a task, a key and a reading
unfoldable pub serve_line : Data → Result LoggedCall DecodeRefusal
serve_line d = do
  or_wrong (exactly (codes "ticket" ∷ codes "reply" ∷ codes "do" ∷ codes "task" ∷ key_name d ∷ codes "at" ∷ []) d)
  task ← or_wrong (number_at (codes "task") d)
  key ← or_wrong (slice_key_in d)
  at ← or_wrong (numeral_at Either (codes "at") d)
  Ok (Whole (call.Serve task key at))

-- a `hold` has a task, a key and a reading
unfoldable pub hold_line : Data → Result LoggedCall DecodeRefusal
hold_line d = do
  or_wrong (exactly (codes "ticket" ∷ codes "reply" ∷ codes "do" ∷ codes "task" ∷ key_name d ∷ codes "at" ∷ []) d)
  task ← or_wrong (number_at (codes "task") d)
  key ← or_wrong (slice_key_in d)
  at ← or_wrong (numeral_at Either (codes "at") d)
  Ok (Whole (call.Hold task key at))

-- a `check` has a task, a handle and a reading
unfoldable pub check_line : Data → Result LoggedCall DecodeRefusal
check_line d = do
  or_wrong (exactly (codes "ticket" ∷ codes "reply" ∷ codes "do" ∷ codes "task" ∷ codes "handle" ∷ codes "at" ∷ []) d)
  task ← or_wrong (number_at (codes "task") d)
  handle ← or_wrong (member_at (codes "handle") d >>= handle_of Either)
  at ← or_wrong (numeral_at Either (codes "at") d)
  Ok (Whole (call.Check task handle at))

-- a `learn` has a clerk and an assignment, of which the slices may be left out
abbrev pub whole_learnt : Data → Result LoggedCall DecodeRefusal
whole_learnt d = do
  or_wrong (exactly (codes "ticket" ∷ codes "reply" ∷ codes "do" ∷ codes "clerk" ∷ codes "generation" ∷ codes "slices" ∷ []) d)
  slicing ← slicing_in Either d
  clerk ← or_wrong (number_at (codes "clerk") d)
  Ok (Whole (call.Clerk clerk (Learn slicing)))

abbrev pub bare_learnt : Data → Result LoggedCall DecodeRefusal
bare_learnt d = do
  or_wrong (exactly (codes "ticket" ∷ codes "reply" ∷ codes "do" ∷ codes "clerk" ∷ codes "generation" ∷ []) d)
  generation ← or_wrong (numeral_at Either (codes "generation") d)
  clerk ← or_wrong (number_at (codes "clerk") d)
  Ok (LearnBare clerk generation)

unfoldable pub learn_line : Data → Result LoggedCall DecodeRefusal
learn_line d = if is_some (get (codes "slices") d) then whole_learnt d else bare_learnt d

-- a `look` has a clerk and a key
unfoldable pub look_line : Data → Result LoggedCall DecodeRefusal
look_line d = do
  or_wrong (exactly (codes "ticket" ∷ codes "reply" ∷ codes "do" ∷ codes "clerk" ∷ key_name d ∷ []) d)
  clerk ← or_wrong (number_at (codes "clerk") d)
  key ← or_wrong (slice_key_in d)
  Ok (Whole (call.Look clerk key))

-- these calls, each by its name and its reader
abbrev pub own_kinds : List (List ℕ × (Data → Result LoggedCall DecodeRefusal))
own_kinds =
    (codes "phase", phase_line) ∷
    (codes "rows", rows_line) ∷
    (codes "restore", restore_line) ∷
    (codes "open", open_line) ∷
    (codes "hear", hear_line) ∷
    (codes "sample", sample_line) ∷
    (codes "serve", serve_line) ∷
    (codes "hold", hold_line) ∷
    (codes "check", check_line) ∷
    (codes "learn", learn_line) ∷
    (codes "look", look_line) ∷ []
