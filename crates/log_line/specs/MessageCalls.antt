-- Calls that a line of a log has as messages have them, beside its ticket, its reply and its actor.
use Rattle.std.specs.Prelude.{ℕ, List, [], ◌∷◌, codes, map, Result, Ok}
use Rattle.serde_json.specs.Data.{Data}
use Rattle.grants.specs.declared.table_call.TableCall.{TableCall}
use Rattle.grants.specs.declared.slicelet_call.SliceletCall.{SliceletCall}
use Rattle.clerk.specs.declared.call.ClerkCall.{ClerkCall}
use Rattle.job_calls.specs.declared.call.ClusterCall.TheVariants as call
use Rattle.program_io.specs.Reading.{◌>>=◌}
use Rattle.program_io.specs.Members.{number_at}
use Rattle.wire.specs.declared.fault.DecodeRefusal.{DecodeRefusal}
use Rattle.wire.specs.declared.numerals.Numerals.TheVariants.{Either}
use Rattle.wire.specs.ClerkCalls.{clerk_call_kinds}
use Rattle.wire.specs.Refusals.{or_wrong}
use Rattle.wire.specs.TableCalls.{call_kinds}
use Rattle.wire.specs.TaskCalls.{task_call_kinds}
use Rattle.log_line.specs.declared.line.LoggedCall.{LoggedCall}
use Rattle.log_line.specs.declared.line.LoggedCall.TheVariants.{Whole}

-- a call of the table
abbrev pub table_line : (Data → Result TableCall DecodeRefusal) → Data → Result LoggedCall DecodeRefusal
table_line read d = do
  made ← read d
  Ok (Whole (call.Table made))

-- a call of a task
abbrev pub task_line : (Data → Result SliceletCall DecodeRefusal) → Data → Result LoggedCall DecodeRefusal
task_line read d = do
  made ← read d
  task ← or_wrong (number_at (codes "task") d)
  Ok (Whole (call.Task task made))

-- a call of a clerk
abbrev pub clerk_line : (Data → Result ClerkCall DecodeRefusal) → Data → Result LoggedCall DecodeRefusal
clerk_line read d = do
  made ← read d
  clerk ← or_wrong (number_at (codes "clerk") d)
  Ok (Whole (call.Clerk clerk made))

-- the readers of calls, by their names, as readers of lines
abbrev pub as_lines : {A : Type 0} → ((Data → Result A DecodeRefusal) → Data → Result LoggedCall DecodeRefusal)
    → List (List ℕ × (Data → Result A DecodeRefusal)) → List (List ℕ × (Data → Result LoggedCall DecodeRefusal))
as_lines line kinds = map (λ kind. (kind.0, line kind.1)) kinds

-- the members that a line of an actor has beside those of its call
abbrev pub table_members : List (List ℕ)
table_members = codes "ticket" ∷ codes "reply" ∷ []

abbrev pub task_members : List (List ℕ)
task_members = codes "ticket" ∷ codes "reply" ∷ codes "task" ∷ []

abbrev pub clerk_members : List (List ℕ)
clerk_members = codes "ticket" ∷ codes "reply" ∷ codes "clerk" ∷ []

-- these calls, each by its name and its reader
abbrev pub table_kinds : List (List ℕ × (Data → Result LoggedCall DecodeRefusal))
table_kinds = as_lines table_line (call_kinds table_members Either)

abbrev pub task_kinds : List (List ℕ × (Data → Result LoggedCall DecodeRefusal))
task_kinds = as_lines task_line (task_call_kinds task_members Either)

abbrev pub clerk_kinds : List (List ℕ × (Data → Result LoggedCall DecodeRefusal))
clerk_kinds = as_lines clerk_line (clerk_call_kinds clerk_members Either)
