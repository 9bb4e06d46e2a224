-- What an element of a script says as a step, in a script of this job.
use Rattle.std.specs.Prelude.{ℕ, List, [], ◌∷◌, ◌++◌, codes, Result, Ok, Err, if◌then◌else◌}
use Rattle.std.specs.Str.{bytes_eq}
use Rattle.serde_json.specs.Data.{Data}
use Rattle.world.specs.Jobs.{Job}
use Rattle.world.specs.declared.step.Step.{Step}
use Rattle.world.specs.declared.step.Step.TheVariants.{Hash, Assign, Owners, Judge, Take, Renew, Propose, Commit, Phase, Rows, Grant, Free, Start, Hear, Release, Serve, Hold, Check, Learn, Look, Forget, Load, Gather, Plan, Next, DropTerm, Lose}
use Rattle.program_io.specs.declared.fault.WrongForm.{WrongForm}
use Rattle.machines.specs.Numbers.{is_within}
use Rattle.assignment.specs.declared.task.TheConstants.{TASKS}
use Rattle.weighted_move.specs.Owning.{rise_from}
use Rattle.weighted_move.specs.Bounds.{Bounds, bounds, is_bounds}
use Rattle.program_io.specs.Reading.{◌>>=◌, ◌>>◌, check}
use Rattle.program_io.specs.Members.{wrong, exactly, number_at, number_in, number_of, flag_at, text_at, list_at}
use Rattle.wire.specs.declared.numerals.Numerals.TheVariants.{Bare}
use Rattle.wire.specs.Assignments.{slice_of}
use Rattle.wire.specs.LeaseMembers.{kind_at, life_at}
use Rattle.replies.specs.Keys.{key_at}
use Rattle.service.specs.Questions.{question_of}

-- a `hash` has a key
unfoldable pub hash_step : Data → Result Step WrongForm
hash_step d = do
  exactly (codes "do" ∷ codes "key" ∷ []) d
  key ← key_at (codes "key") d
  Ok (Hash key)

-- an `assign` has a generation and slices
unfoldable pub assign_step : Data → Result Step WrongForm
assign_step d = do
  exactly (codes "do" ∷ codes "generation" ∷ codes "slices" ∷ []) d
  generation ← number_at (codes "generation") d
  slices ← list_at (slice_of Bare) (codes "slices") d
  Ok (Assign generation slices)

-- an `owners` has a key
unfoldable pub owners_step : Data → Result Step WrongForm
owners_step d = do
  exactly (codes "do" ∷ codes "key" ∷ []) d
  key ← key_at (codes "key") d
  Ok (Owners key)

-- a `judge` asks a question
abbrev pub judge_step : Data → Result Step WrongForm
judge_step d = do
  question ← question_of d
  Ok (Judge question)

-- a `take` has an assigner and a reading
unfoldable pub take_step : Job → Data → Result Step WrongForm
take_step job d = do
  exactly (codes "do" ∷ codes "assigner" ∷ codes "at" ∷ []) d
  assigner ← number_in 1 job.assigners (codes "assigner") d
  at ← number_at (codes "at") d
  Ok (Take assigner at)

-- a `renew` has an assigner and a reading
unfoldable pub renew_step : Job → Data → Result Step WrongForm
renew_step job d = do
  exactly (codes "do" ∷ codes "assigner" ∷ codes "at" ∷ []) d
  assigner ← number_in 1 job.assigners (codes "assigner") d
  at ← number_at (codes "at") d
  Ok (Renew assigner at)

-- a `propose` has an assigner, a generation, slices and a reading
unfoldable pub propose_step : Job → Data → Result Step WrongForm
propose_step job d = do
  exactly (codes "do" ∷ codes "assigner" ∷ codes "generation" ∷ codes "slices" ∷ codes "at" ∷ []) d
  assigner ← number_in 1 job.assigners (codes "assigner") d
  generation ← number_at (codes "generation") d
  slices ← list_at (slice_of Bare) (codes "slices") d
  at ← number_at (codes "at") d
  Ok (Propose assigner generation slices at)

-- a `commit` has an assigner and a reading
unfoldable pub commit_step : Job → Data → Result Step WrongForm
commit_step job d = do
  exactly (codes "do" ∷ codes "assigner" ∷ codes "at" ∷ []) d
  assigner ← number_in 1 job.assigners (codes "assigner") d
  at ← number_at (codes "at") d
  Ok (Commit assigner at)

-- a `phase` has nothing more
unfoldable pub phase_step : Data → Result Step WrongForm
phase_step d = do
  exactly (codes "do" ∷ []) d
  Ok Phase

-- a `rows` has nothing more
unfoldable pub rows_step : Data → Result Step WrongForm
rows_step d = do
  exactly (codes "do" ∷ []) d
  Ok Rows

-- a `grant` has a task, a life of it and a reading
unfoldable pub grant_step : Job → Data → Result Step WrongForm
grant_step job d = do
  exactly (codes "do" ∷ codes "task" ∷ codes "life" ∷ codes "at" ∷ []) d
  task ← number_in 1 job.tasks (codes "task") d
  life ← life_at (codes "life") d
  at ← number_at (codes "at") d
  Ok (Grant task life at)

-- a `free` has the number of a note and a reading
unfoldable pub free_step : Data → Result Step WrongForm
free_step d = do
  exactly (codes "do" ∷ codes "note" ∷ codes "at" ∷ []) d
  note ← number_at (codes "note") d
  at ← number_at (codes "at") d
  Ok (Free note at)

-- a `start` has a task, a life of it and a reading
unfoldable pub start_step : Job → Data → Result Step WrongForm
start_step job d = do
  exactly (codes "do" ∷ codes "task" ∷ codes "life" ∷ codes "at" ∷ []) d
  task ← number_in 1 job.tasks (codes "task") d
  life ← life_at (codes "life") d
  at ← number_at (codes "at") d
  Ok (Start task life at)

-- a `hear` has a task, the number of a grant and a reading
unfoldable pub hear_step : Job → Data → Result Step WrongForm
hear_step job d = do
  exactly (codes "do" ∷ codes "task" ∷ codes "number" ∷ codes "at" ∷ []) d
  task ← number_in 1 job.tasks (codes "task") d
  number ← number_at (codes "number") d
  at ← number_at (codes "at") d
  Ok (Hear task number at)

-- a `release` has a task, a kind of lease and a reading
unfoldable pub release_step : Job → Data → Result Step WrongForm
release_step job d = do
  exactly (codes "do" ∷ codes "task" ∷ codes "kind" ∷ codes "at" ∷ []) d
  task ← number_in 1 job.tasks (codes "task") d
  kind ← kind_at (codes "kind") d
  at ← number_at (codes "at") d
  Ok (Release task kind at)

-- a `serve` has a task, a key and a reading
unfoldable pub serve_step : Job → Data → Result Step WrongForm
serve_step job d = do
  exactly (codes "do" ∷ codes "task" ∷ codes "key" ∷ codes "at" ∷ []) d
  task ← number_in 1 job.tasks (codes "task") d
  key ← key_at (codes "key") d
  at ← number_at (codes "at") d
  Ok (Serve task key at)

-- a `hold` has a task, a key and a reading
unfoldable pub hold_step : Job → Data → Result Step WrongForm
hold_step job d = do
  exactly (codes "do" ∷ codes "task" ∷ codes "key" ∷ codes "at" ∷ []) d
  task ← number_in 1 job.tasks (codes "task") d
  key ← key_at (codes "key") d
  at ← number_at (codes "at") d
  Ok (Hold task key at)

-- a `check` has a task, the number of a handle and a reading
unfoldable pub check_step : Job → Data → Result Step WrongForm
check_step job d = do
  exactly (codes "do" ∷ codes "task" ∷ codes "handle" ∷ codes "at" ∷ []) d
  task ← number_in 1 job.tasks (codes "task") d
  handle ← number_at (codes "handle") d
  at ← number_at (codes "at") d
  Ok (Check task handle at)

-- a `learn` has a clerk and a generation
unfoldable pub learn_step : Job → Data → Result Step WrongForm
learn_step job d = do
  exactly (codes "do" ∷ codes "clerk" ∷ codes "generation" ∷ []) d
  clerk ← number_in 1 job.clerks (codes "clerk") d
  generation ← number_at (codes "generation") d
  Ok (Learn clerk generation)

-- a `look` has a clerk and a key
unfoldable pub look_step : Job → Data → Result Step WrongForm
look_step job d = do
  exactly (codes "do" ∷ codes "clerk" ∷ codes "key" ∷ []) d
  clerk ← number_in 1 job.clerks (codes "clerk") d
  key ← key_at (codes "key") d
  Ok (Look clerk key)

-- a `forget` has a clerk
unfoldable pub forget_step : Job → Data → Result Step WrongForm
forget_step job d = do
  exactly (codes "do" ∷ codes "clerk" ∷ []) d
  clerk ← number_in 1 job.clerks (codes "clerk") d
  Ok (Forget clerk)

-- a `restart` has an assigner
unfoldable pub drop_term_step : Job → Data → Result Step WrongForm
drop_term_step job d = do
  exactly (codes "do" ∷ codes "assigner" ∷ []) d
  assigner ← number_in 1 job.assigners (codes "assigner") d
  Ok (DropTerm assigner)

-- a `lose` has nothing more
unfoldable pub lose_step : Data → Result Step WrongForm
lose_step d = do
  exactly (codes "do" ∷ []) d
  Ok Lose

-- a `load` has a task, a key and a weight
unfoldable pub load_step : Job → Data → Result Step WrongForm
load_step job d = do
  exactly (codes "do" ∷ codes "task" ∷ codes "key" ∷ codes "weight" ∷ []) d
  task ← number_in 1 job.tasks (codes "task") d
  key ← key_at (codes "key") d
  weight ← number_at (codes "weight") d
  Ok (Load task key weight)

-- a `gather` has nothing more
unfoldable pub gather_step : Data → Result Step WrongForm
gather_step d = do
  exactly (codes "do" ∷ []) d
  Ok Gather

-- a task that there may be, in this job or not
unfoldable pub task_of : Data → Result ℕ WrongForm
task_of d = do
  number ← number_of d
  check (is_within number TASKS) wrong
  Ok number

-- the member of this name, as a set of tasks in rising order
unfoldable pub tasks_at : List ℕ → Data → Result (List ℕ) WrongForm
tasks_at name d = do
  tasks ← list_at task_of name d
  check (rise_from 1 tasks) wrong
  Ok tasks

-- the four members that hold a plan, each within its limits
unfoldable pub bounds_of : Data → Result Bounds WrongForm
bounds_of d = do
  churn ← number_at (codes "churn") d
  cold ← number_at (codes "cold") d
  hot ← number_at (codes "hot") d
  most ← number_at (codes "most") d
  check (is_bounds (bounds churn cold hot most)) wrong
  Ok (bounds churn cold hot most)

-- a `plan` has tasks, loads, and the bounds of the plan
unfoldable pub plan_step : Data → Result Step WrongForm
plan_step d = do
  exactly (codes "do" ∷ codes "tasks" ∷ codes "loads" ∷ codes "churn" ∷ codes "cold" ∷ codes "hot" ∷ codes "most" ∷ []) d
  tasks ← tasks_at (codes "tasks") d
  loads ← list_at number_of (codes "loads") d
  bounds ← bounds_of d
  Ok (Plan loads tasks bounds)

-- a `next` has an assigner, a reading, and whether another assignment is wanted
unfoldable pub next_step : Job → Data → Result Step WrongForm
next_step job d = do
  exactly (codes "do" ∷ codes "assigner" ∷ codes "at" ∷ codes "wanted" ∷ []) d
  assigner ← number_in 1 job.assigners (codes "assigner") d
  at ← number_at (codes "at") d
  wanted ← flag_at (codes "wanted") d
  Ok (Next assigner at wanted)

-- what reads the object of a step, in a script of this job
abbrev pub Reader : Type 0
Reader = Job → Data → Result Step WrongForm

-- the step that the reader of this name makes of the object; a name without one is wrong
abbrev pub read_named : List (List ℕ × Reader) → List ℕ → Job → Data → Result Step WrongForm
read_named [] name job d = Err wrong
read_named (kind ∷ kinds) name job d = if bytes_eq name kind.0 then kind.1 job d else read_named kinds name job d

-- the steps of loads and plans, and what an assigner does next
abbrev pub load_kinds : List (List ℕ × Reader)
load_kinds =
    (codes "load", load_step) ∷
    (codes "gather", λ job. gather_step) ∷
    (codes "plan", λ job. plan_step) ∷
    (codes "next", next_step) ∷ []

-- the steps of a clerk
abbrev pub clerk_kinds : List (List ℕ × Reader)
clerk_kinds =
    (codes "learn", learn_step) ∷
    (codes "look", look_step) ∷
    (codes "forget", forget_step) ∷ []

-- the steps of a task
abbrev pub task_kinds : List (List ℕ × Reader)
task_kinds =
    (codes "start", start_step) ∷
    (codes "hear", hear_step) ∷
    (codes "release", release_step) ∷
    (codes "serve", serve_step) ∷
    (codes "hold", hold_step) ∷
    (codes "check", check_step) ∷ []

-- the steps of the table and its assigners
abbrev pub table_kinds : List (List ℕ × Reader)
table_kinds =
    (codes "take", take_step) ∷
    (codes "renew", renew_step) ∷
    (codes "propose", propose_step) ∷
    (codes "commit", commit_step) ∷
    (codes "phase", λ job. phase_step) ∷
    (codes "rows", λ job. rows_step) ∷
    (codes "grant", grant_step) ∷
    (codes "free", λ job. free_step) ∷
    (codes "restart", drop_term_step) ∷
    (codes "lose", λ job. lose_step) ∷ []

-- the steps of no actor
abbrev pub plain_kinds : List (List ℕ × Reader)
plain_kinds =
    (codes "hash", λ job. hash_step) ∷
    (codes "assign", λ job. assign_step) ∷
    (codes "owners", λ job. owners_step) ∷
    (codes "judge", λ job. judge_step) ∷ []

-- a step, named by its member `do`
unfoldable pub step_of : Job → Data → Result Step WrongForm
step_of job d = do
  name ← text_at (codes "do") d
  read_named (plain_kinds ++ table_kinds ++ task_kinds ++ clerk_kinds ++ load_kinds) name job d
