-- What the members of leases and their calls say, and how they are written.
use Rattle.std.specs.Prelude.{ℕ, ◌^◌, List, codes, Result, Ok, Err, nat_lt, if◌then◌else◌}
use Rattle.std.specs.Str.{bytes_eq}
use Rattle.serde_json.specs.Data.{Data, string}
use Rattle.machines.specs.Numbers.{is_within}
use Rattle.assignment.specs.declared.task.TheConstants.{TASKS}
use Rattle.lease_rule.specs.declared.lease.Kind.{Kind}
use Rattle.lease_rule.specs.declared.lease.Kind.TheVariants.{Guard, Bridge}
use Rattle.program_io.specs.declared.fault.WrongForm.{WrongForm}
use Rattle.program_io.specs.Reading.{◌>>=◌, ◌>>◌, check}
use Rattle.program_io.specs.Members.{wrong, number_at, text_at}

-- the word for a kind of lease
abbrev pub kind_word : Kind → List ℕ
kind_word Guard = codes "guard"
kind_word Bridge = codes "bridge"

-- a kind of lease, as its word
abbrev pub kind_data : Kind → Data
kind_data kind = string (kind_word kind)

-- the kind of this name
abbrev pub kind_named : List ℕ → Result Kind WrongForm
kind_named name = if bytes_eq name (codes "guard") then Ok Guard else (if bytes_eq name (codes "bridge") then Ok Bridge else Err wrong)

-- the member of this name, as a kind of lease
abbrev pub kind_at : List ℕ → Data → Result Kind WrongForm
kind_at name d = text_at name d >>= kind_named

-- the member of this name, as the number of a life, below 2^32
abbrev pub life_at : List ℕ → Data → Result ℕ WrongForm
life_at name d = do
  n ← number_at name d
  check (nat_lt n (2 ^ 32)) wrong
  Ok n

-- the member of this name, as a task that there may be
abbrev pub task_at : List ℕ → Data → Result ℕ WrongForm
task_at name d = do
  n ← number_at name d
  check (is_within n TASKS) wrong
  Ok n
