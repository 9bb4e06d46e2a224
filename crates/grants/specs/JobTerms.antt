-- The terms of the job lease.
use Rattle.std.specs.Prelude.{ℕ, Option, Some, None}
use Rattle.grants.specs.declared.values.JobTerm.{JobTerm}

-- the number of the last term given, 0 for none
abbrev pub last_number : Option JobTerm → ℕ
last_number None = 0
last_number (Some term) = term.number
