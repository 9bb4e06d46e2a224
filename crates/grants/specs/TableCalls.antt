-- What calls of a table read.
use Rattle.std.specs.Prelude.{ℕ, Option, Some, None}
use Rattle.grants.specs.declared.table_call.TableCall.{TableCall}
use Rattle.grants.specs.declared.table_call.TableCall.TheVariants as call

-- the reading of a call; a restart has none
abbrev pub reading_of : TableCall → Option ℕ
reading_of (call.JobTake assigner at) = Some at
reading_of (call.JobRenew number at) = Some at
reading_of (call.Propose number slicing at) = Some at
reading_of (call.Commit number at) = Some at
reading_of (call.Grant task life at) = Some at
reading_of (call.Free note at) = Some at
reading_of call.Restart = None
