-- What stands before the parts of a snapshot, and before the calls of a task.
use Rattle.std.specs.Prelude.{ℕ, List, [], ◌∷◌, codes, length, Result, Ok}
use Rattle.serde_json.specs.Data.{Data}
use Rattle.program_io.specs.declared.fault.WrongForm.{WrongForm}
use Rattle.program_io.specs.Reading.{◌>>=◌, ◌>>◌}
use Rattle.program_io.specs.Members.{exactly, number_at}
use Rattle.wire.specs.declared.numerals.Numerals.{Numerals}
use Rattle.wire.specs.LeaseMembers.{life_at}
use Rattle.wire.specs.Numerals.{numeral_at, numeral_data}
use Rattle.wire.specs.Objects.{number_data, object_data}
use Rattle.job_calls.specs.declared.snapshot.ClusterSnapshot.{ClusterSnapshot}
use Rattle.job_calls.specs.declared.snapshot.TaskSnapshot.{TaskSnapshot}
use Rattle.snapshot_text.specs.declared.head.Head.{Head}
use Rattle.snapshot_text.specs.declared.task_head.TaskHead.{TaskHead}

-- the grace, the counts of the job, and how many parts of each kind there are
abbrev pub head_in : ClusterSnapshot → Head
head_in s = record {
  grace = s.table.grace;
  notes_made = s.notes_made;
  handles_made = s.handles_made;
  table_reading = s.table_reading;
  rows = length s.table.rows.items;
  tasks = length s.tasks.items;
  clerks = length s.clerks.items;
  grants = length s.grants.items;
  assignments = length s.assignments.items;
  notes = length s.notes.items;
  handles = length s.handles.items;
}

-- `{"assignments":A,"clerks":C,"grace":TICKS,"grants":G,"handles":H,"handles_made":M,"notes":N,"notes_made":M,"rows":R,"table_reading":TICKS,"tasks":T}`
abbrev pub head_data : Numerals → Head → Data
head_data numerals head = object_data
    ((codes "assignments", number_data head.assignments) ∷
    (codes "clerks", number_data head.clerks) ∷
    (codes "grace", numeral_data numerals head.grace) ∷
    (codes "grants", number_data head.grants) ∷
    (codes "handles", number_data head.handles) ∷
    (codes "handles_made", numeral_data numerals head.handles_made) ∷
    (codes "notes", number_data head.notes) ∷
    (codes "notes_made", numeral_data numerals head.notes_made) ∷
    (codes "rows", number_data head.rows) ∷
    (codes "table_reading", numeral_data numerals head.table_reading) ∷
    (codes "tasks", number_data head.tasks) ∷ [])

abbrev pub head_members : List (List ℕ)
head_members = codes "assignments" ∷ codes "clerks" ∷ codes "grace" ∷ codes "grants" ∷ codes "handles" ∷ codes "handles_made"
    ∷ codes "notes" ∷ codes "notes_made" ∷ codes "rows" ∷ codes "table_reading" ∷ codes "tasks" ∷ []

-- a head has each of these members
unfoldable pub head_of : Numerals → Data → Result Head WrongForm
head_of numerals d = do
  exactly head_members d
  grace ← numeral_at numerals (codes "grace") d
  notes_made ← numeral_at numerals (codes "notes_made") d
  handles_made ← numeral_at numerals (codes "handles_made") d
  table_reading ← numeral_at numerals (codes "table_reading") d
  rows ← number_at (codes "rows") d
  tasks ← number_at (codes "tasks") d
  clerks ← number_at (codes "clerks") d
  grants ← number_at (codes "grants") d
  assignments ← number_at (codes "assignments") d
  notes ← number_at (codes "notes") d
  handles ← number_at (codes "handles") d
  Ok (record {
    grace = grace;
    notes_made = notes_made;
    handles_made = handles_made;
    table_reading = table_reading;
    rows = rows;
    tasks = tasks;
    clerks = clerks;
    grants = grants;
    assignments = assignments;
    notes = notes;
    handles = handles;
  })

-- the life of a task, and how many calls its process accepted
abbrev pub task_head_in : TaskSnapshot → TaskHead
task_head_in task = record { life = task.life; calls = length task.calls }

-- `{"calls":C,"life":L}`
abbrev pub task_head_data : Numerals → TaskHead → Data
task_head_data numerals head = object_data
    ((codes "calls", number_data head.calls) ∷
    (codes "life", number_data head.life) ∷ [])

-- the head of a task has both
unfoldable pub task_head_of : Data → Result TaskHead WrongForm
task_head_of d = do
  exactly (codes "calls" ∷ codes "life" ∷ []) d
  life ← life_at (codes "life") d
  calls ← number_at (codes "calls") d
  Ok (record { life = life; calls = calls })
