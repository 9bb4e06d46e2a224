-- What a line says of a table that was restored, after the calls before it.
use Rattle.std.specs.Prelude.{◌≡◌, ℕ, ◌+◌, ◌<◌, ◌≤◌, ◌==◌, ◌&&◌, ◌||◌, nat_lt, Bool, true, false, ◌∷◌, ◌++◌, length, Option, Some, None}
use Rattle.std.specs.List.{AllByRecursion}
use Rattle.grants.specs.declared.table_call.TableCall.TheVariants as table_call
use Rattle.grants.specs.declared.kept.Kept.{Kept}
use Rattle.lease_table.specs.KeptValues.{kept_of}
use Rattle.grants.specs.KeptValues.{Covers}
use Rattle.grants.specs.Assignments.{generation_of}
use Rattle.job_calls.specs.Jobs.{Job}
use Rattle.job_calls.specs.declared.call.ClusterCall.{ClusterCall}
use Rattle.job_calls.specs.declared.call.ClusterCall.TheVariants as call
use Rattle.job_calls.specs.declared.reply.ClusterReply.{ClusterReply}
use Rattle.cluster.specs.Pasts.{event, Past, standing}
use Rattle.log_line.specs.declared.restored.KeptNumbers.{KeptNumbers}
use Rattle.log_line.specs.declared.restored.RestoreFault.{RestoreFault}
use Rattle.log_line.specs.declared.restored.RestoreFault.TheVariants.{LessThanLog, FarAhead, NotAhead}
use Rattle.log_line.specs.declared.restored.TheConstants.{MOST_AHEAD}
use Rattle.log_line.specs.Calls.{numbers_of}
use Rattle.log_line.specs.declared.told.CallerReply.{CallerReply}
use Rattle.log_line.specs.declared.told.CallerReply.TheVariants.{Restored, NotRestored}

-- kept values with these in place of theirs
abbrev pub kept_with : Kept → KeptNumbers → Kept
kept_with kept numbers = record kept { last = numbers.last; granted = numbers.granted; deadline = numbers.deadline }

abbrev pub is_less : KeptNumbers → KeptNumbers → Bool
is_less numbers table = nat_lt numbers.granted table.granted || nat_lt numbers.last table.last || nat_lt numbers.deadline table.deadline

abbrev pub is_same : KeptNumbers → KeptNumbers → Bool
is_same numbers other = numbers.granted == other.granted && numbers.last == other.last && numbers.deadline == other.deadline

-- THE CHECKS: the values are those that the table keeps or values that are ahead of them, with not too many grants; or else they have the
-- first of these faults
abbrev pub IsChecked : Kept → KeptNumbers → Option RestoreFault → Type 0
IsChecked kept numbers (Some LessThanLog) = is_less numbers (numbers_of kept) ≡ true
IsChecked kept numbers (Some FarAhead) = (is_less numbers (numbers_of kept) ≡ false) × (kept.granted + MOST_AHEAD < numbers.granted)
IsChecked kept numbers (Some NotAhead) =
    (is_less numbers (numbers_of kept) ≡ false) × (numbers.granted ≤ kept.granted + MOST_AHEAD) × (Covers kept (kept_with kept numbers) → ⊥)
IsChecked kept numbers None = (numbers.granted ≤ kept.granted + MOST_AHEAD) × Covers kept (kept_with kept numbers)

-- a restored table is told with the committed generation and the end of its grace
abbrev pub restore_told : Kept → KeptNumbers → Option RestoreFault → CallerReply
restore_told kept numbers None = Restored (generation_of kept.committed) numbers.deadline
restore_told kept numbers (Some fault) = NotRestored fault (numbers_of kept)

-- THE EVENTS

-- a grant to task 1 in life 0: lives begin at 1, so no task ever hears it
abbrev pub grant_to_nobody : ℕ → ClusterCall
grant_to_nobody at = call.Table (table_call.Grant 1 0 at)

-- the grants that the table is ahead by are made to nobody, at its last reading, and then it restarts
pub record IsRestart (granted : ℕ) (numbers : KeptNumbers) (before after : Past) : Type 0 where
  pub ahead : Past
  pub nobody : AllByRecursion (λ e. e.call ≡ grant_to_nobody numbers.last) ahead
  pub many : granted + length ahead ≡ numbers.granted
  pub lost : ClusterReply
  pub events : after ≡ event (call.Table table_call.Restart) lost ∷ (ahead ++ before)

-- a refused restart changes nothing
abbrev pub IsTaken : Option RestoreFault → ℕ → KeptNumbers → Past → Past → Type 0
IsTaken None granted numbers before after = IsRestart granted numbers before after
IsTaken (Some fault) granted numbers before after = after ≡ before

-- after these calls the table is restored from these values, or refused it, and this is told
pub record IsRestored (job : Job) (before : Past) (numbers : KeptNumbers) (told : CallerReply) (after : Past) : Type 0 where
  pub fault : Option RestoreFault
  pub checked : IsChecked (kept_of (standing job.policy before)) numbers fault
  pub tells : told ≡ restore_told (kept_of (standing job.policy before)) numbers fault
  pub taken : IsTaken fault (standing job.policy before).granted numbers before after
