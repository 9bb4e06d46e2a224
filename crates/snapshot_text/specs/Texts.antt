-- The text of a snapshot: a line for each part.
use Rattle.std.specs.Prelude.{◌≡◌, ℕ, ⊤, false, List, [], ◌++◌, codes, Option, Result, Ok, Err}
use Rattle.std.specs.List.{flat_map, AllByRecursion}
use Rattle.assignment.specs.Slices.{Slicing}
use Rattle.grants.specs.declared.kept.Kept.{Kept}
use Rattle.grants.specs.declared.values.Grant.{Grant}
use Rattle.grants.specs.declared.values.ReleaseNote.{ReleaseNote}
use Rattle.grants.specs.declared.values.Row.{Row}
use Rattle.grants.specs.declared.slicelet_call.SliceletCall.{SliceletCall}
use Rattle.key_handle.specs.declared.handle.KeyHandle.{KeyHandle}
use Rattle.job_calls.specs.declared.snapshot.ClusterSnapshot.{ClusterSnapshot}
use Rattle.job_calls.specs.declared.snapshot.TaskSnapshot.{TaskSnapshot}
use Rattle.wire.specs.declared.fault.DecodeRefusal.TheVariants.{TooLong}
use Rattle.wire.specs.Assignments.{assignment_data, assignment_of}
use Rattle.wire.specs.Clerks.{clerk_data, clerk_of}
use Rattle.wire.specs.Grants.{grant_data, grant_of}
use Rattle.wire.specs.Handles.{handle_data, handle_of}
use Rattle.wire.specs.Kept.{kept_data, kept_of}
use Rattle.wire.specs.Notes.{note_data, note_of}
use Rattle.wire.specs.Refusals.{or_wrong}
use Rattle.wire.specs.Rows.{row_data, row_of}
use Rattle.wire.specs.TaskCalls.{task_call_data, task_call_of}
use Rattle.snapshot_text.specs.declared.error.SnapshotError.{SnapshotError}
use Rattle.snapshot_text.specs.declared.error.SnapshotError.TheVariants.{Line, Short, Long, Memory}
use Rattle.snapshot_text.specs.declared.head.Head.{Head}
use Rattle.snapshot_text.specs.declared.task_head.TaskHead.{TaskHead}
use Rattle.snapshot_text.specs.Heads.{head_data, head_of, head_in, task_head_data, task_head_of, task_head_in}
use Rattle.snapshot_text.specs.Lines.{Place, place, is_empty, Form, form_of, line_of, lines_of, IsReadBack, AreReadBack, IsNext, AreNext, Each, Many, IsNot, AreNot, Fewer, Then}

-- THE PARTS

abbrev pub head_line : Form Head
head_line = form_of (codes "snapshot") head_data (λ numerals d. or_wrong (head_of numerals d))

abbrev pub kept_line : Form Kept
kept_line = form_of (codes "kept") kept_data kept_of

abbrev pub row_line : Form Row
row_line = form_of (codes "row") row_data (λ numerals d. or_wrong (row_of numerals d))

abbrev pub task_line : Form TaskHead
task_line = form_of (codes "task") task_head_data (λ _ d. or_wrong (task_head_of d))

abbrev pub call_line : Form SliceletCall
call_line = form_of (codes "task-call") task_call_data task_call_of

abbrev pub clerk_line : Form (Option Slicing)
clerk_line = form_of (codes "clerk") clerk_data clerk_of

abbrev pub grant_line : Form Grant
grant_line = form_of (codes "grant") grant_data grant_of

abbrev pub assignment_line : Form Slicing
assignment_line = form_of (codes "assignment") assignment_data assignment_of

abbrev pub note_line : Form ReleaseNote
note_line = form_of (codes "note") note_data (λ numerals d. or_wrong (note_of numerals d))

abbrev pub handle_line : Form KeyHandle
handle_line = form_of (codes "handle") handle_data (λ numerals d. or_wrong (handle_of numerals d))

-- THE TEXT

-- a task: its head, and its calls
abbrev pub task_text : List ℕ → TaskSnapshot → List ℕ
task_text job task = line_of job task_line (task_head_in task) ++ lines_of job call_line task.calls

-- the parts of a snapshot in order
abbrev pub snapshot_text : List ℕ → ClusterSnapshot → List ℕ
snapshot_text job s =
    line_of job head_line (head_in s)
    ++ line_of job kept_line s.table.kept
    ++ lines_of job row_line s.table.rows.items
    ++ flat_map (task_text job) s.tasks.items
    ++ lines_of job clerk_line s.clerks.items
    ++ lines_of job grant_line s.grants.items
    ++ lines_of job assignment_line s.assignments.items
    ++ lines_of job note_line s.notes.items
    ++ lines_of job handle_line s.handles.items

-- the messages of a task are read as it
pub record IsTaskReadBack (job : List ℕ) (task : TaskSnapshot) : Type 0 where
  pub head : IsReadBack job task_line (task_head_in task)
  pub calls : AreReadBack job call_line task.calls

abbrev pub AreTasksReadBack : List ℕ → List TaskSnapshot → Type 0
AreTasksReadBack job tasks = AllByRecursion (IsTaskReadBack job) tasks

-- A TEXT THAT IS READ

-- at a place stand the head and the calls of a task
pub record NextTask (job : List ℕ) (at : Place) (task : TaskSnapshot) (after : Place) : Type 0 where
  pub calls_at : Place
  pub head : IsNext job task_line at (task_head_in task) calls_at
  pub calls : Each (IsNext job call_line) calls_at task.calls after

abbrev pub AreTasks : List ℕ → ℕ → Place → List TaskSnapshot → Place → Type 0
AreTasks job = Many (NextTask job)

-- the lines of a text are messages of the parts of a snapshot, one for each, and nothing follows them
pub record IsText (job text : List ℕ) (s : ClusterSnapshot) : Type 0 where
  pub kept_at : Place
  pub rows_at : Place
  pub tasks_at : Place
  pub clerks_at : Place
  pub grants_at : Place
  pub assignments_at : Place
  pub notes_at : Place
  pub handles_at : Place
  pub end : Place
  pub head : IsNext job head_line (place 0 text) (head_in s) kept_at
  pub kept : IsNext job kept_line kept_at s.table.kept rows_at
  pub rows : Each (IsNext job row_line) rows_at s.table.rows.items tasks_at
  pub tasks : Each (NextTask job) tasks_at s.tasks.items clerks_at
  pub clerks : Each (IsNext job clerk_line) clerks_at s.clerks.items grants_at
  pub grants : Each (IsNext job grant_line) grants_at s.grants.items assignments_at
  pub assignments : Each (IsNext job assignment_line) assignments_at s.assignments.items notes_at
  pub notes : Each (IsNext job note_line) notes_at s.notes.items handles_at
  pub handles : Each (IsNext job handle_line) handles_at s.handles.items end
  pub nothing : end.rest ≡ []

-- two snapshots have the same values, however they lie in memory
pub record AreAlike (s t : ClusterSnapshot) : Type 0 where
  pub head : head_in s ≡ head_in t
  pub kept : s.table.kept ≡ t.table.kept
  pub rows : s.table.rows.items ≡ t.table.rows.items
  pub tasks : s.tasks.items ≡ t.tasks.items
  pub clerks : s.clerks.items ≡ t.clerks.items
  pub grants : s.grants.items ≡ t.grants.items
  pub assignments : s.assignments.items ≡ t.assignments.items
  pub notes : s.notes.items ≡ t.notes.items
  pub handles : s.handles.items ≡ t.handles.items

-- a text was not read since memory ran out or a line is too long
abbrev pub IsUnread : SnapshotError → Type 0
IsUnread (Line number why) = why ≡ TooLong
IsUnread Short = ⊥
IsUnread Long = ⊥
IsUnread Memory = ⊤

-- the text of a snapshot was read as it, unless it was not read
abbrev pub IsReadAs : ClusterSnapshot → Result ClusterSnapshot SnapshotError → Type 0
IsReadAs s (Ok t) = AreAlike t s
IsReadAs s (Err e) = IsUnread e

-- WHY A TEXT IS NOT THAT OF A SNAPSHOT

-- at a place no task is next: no head of a task, or one with fewer calls
abbrev pub NoTask : List ℕ → Place → SnapshotError → Type 0
NoTask job = Then (IsNext job task_line) (IsNot job task_line) (λ head. AreNot job call_line head.calls)

abbrev pub AreNoTasks : List ℕ → ℕ → Place → SnapshotError → Type 0
AreNoTasks job = Fewer (NextTask job) (NoTask job)

-- something follows the last part
abbrev pub IsLong : Place → SnapshotError → Type 0
IsLong end e = (e ≡ Long) × (is_empty end.rest ≡ false)

-- so many values of a form are due, and then the rest
abbrev pub Due : {A : Type 0} → List ℕ → Form A → ℕ → (Place → SnapshotError → Type 0) → Place → SnapshotError → Type 0
Due job form count Rest = Then (AreNext job form count) (AreNot job form count) (λ _. Rest)

-- what is due from the handles on; from the notes on; and so on
abbrev pub FromHandles : List ℕ → Head → Place → SnapshotError → Type 0
FromHandles job head = Due job handle_line head.handles IsLong

abbrev pub FromNotes : List ℕ → Head → Place → SnapshotError → Type 0
FromNotes job head = Due job note_line head.notes (FromHandles job head)

abbrev pub FromAssignments : List ℕ → Head → Place → SnapshotError → Type 0
FromAssignments job head = Due job assignment_line head.assignments (FromNotes job head)

abbrev pub FromGrants : List ℕ → Head → Place → SnapshotError → Type 0
FromGrants job head = Due job grant_line head.grants (FromAssignments job head)

abbrev pub FromClerks : List ℕ → Head → Place → SnapshotError → Type 0
FromClerks job head = Due job clerk_line head.clerks (FromGrants job head)

abbrev pub FromTasks : List ℕ → Head → Place → SnapshotError → Type 0
FromTasks job head = Then (AreTasks job head.tasks) (AreNoTasks job head.tasks) (λ _. FromClerks job head)

abbrev pub FromRows : List ℕ → Head → Place → SnapshotError → Type 0
FromRows job head = Due job row_line head.rows (FromTasks job head)

abbrev pub FromKept : List ℕ → Head → Place → SnapshotError → Type 0
FromKept job head = Then (IsNext job kept_line) (IsNot job kept_line) (λ _. FromRows job head)

-- the first part that is due is not there, or something follows the last one
abbrev pub IsTextFault : List ℕ → List ℕ → SnapshotError → Type 0
IsTextFault job text = Then (IsNext job head_line) (IsNot job head_line) (FromKept job) (place 0 text)
