-- What each call answers and leaves, from what the table stands at.
use Rattle.std.specs.Prelude.{ℕ, ◌==◌, ◌+◌, ◌-◌, Bool, false, not, ◌&&◌, nat_lt, nat_le, max, List, [], ◌∷◌, ◌++◌, length, filter, Option, Some, None, is_some, is_none, option_map, Result, Ok}
use Rattle.std.specs.List.{list_any}
use Rattle.machines.specs.Refusals.{when, answer}
use Rattle.slice_ranges.specs.Sets.{keys_where}
use Rattle.lease_rule.specs.declared.lease.Kind.TheVariants.{Guard, Bridge}
use Rattle.assignment.specs.Slices.{Slicing}
use Rattle.assignment.specs.Owners.{owns}
use Rattle.grants.specs.declared.table_error.TableError.{TableError}
use Rattle.grants.specs.declared.table_error.TableError.TheVariants.{ReadingRange, ClockBack, JobHeld, NotHolder, StaleBase, Pending, NothingPending, TooManyOwnersForJob, Grace, Held, NoRow, NoAssignment, NumbersSpent}
use Rattle.grants.specs.declared.policy.TheConstants.{READINGS}
use Rattle.grants.specs.declared.values.JobTerm.{JobTerm}
use Rattle.grants.specs.declared.values.Grant.{Grant}
use Rattle.grants.specs.declared.values.ReleaseNote.{ReleaseNote}
use Rattle.grants.specs.declared.values.Row.{Row}
use Rattle.grants.specs.Rows.{running_rows, closes, rows_left_open, first_up_to, row_of}
use Rattle.lease_table.specs.Tables.{Standing}
use Rattle.grants.specs.JobTerms.{last_number}
use Rattle.grants.specs.Assignments.{generation_of, slices_of}

-- the refusals of a reading
abbrev pub out_of_range : ℕ → Option TableError
out_of_range at = when (nat_le READINGS at) ReadingRange

abbrev pub clock_back : Standing → ℕ → Option TableError
clock_back t at = when (nat_lt at t.last) ClockBack

-- the last term has not ended
abbrev pub job_held : ℕ → Option JobTerm → Option TableError
job_held at None = None
job_held at (Some term) = when (nat_lt at term.until) (JobHeld term.until)

-- the number is that of the last term given, which has not ended
abbrev pub is_holder : ℕ → ℕ → Option JobTerm → Bool
is_holder number at None = false
is_holder number at (Some term) = term.number == number && nat_lt at term.until

abbrev pub not_holder : Standing → ℕ → ℕ → Option TableError
not_holder t number at = when (not (is_holder number at t.term)) (NotHolder (last_number t.term))

-- the leases whose rows were lost may not have ended
abbrev pub in_grace : Standing → ℕ → Option TableError
in_grace t at = when (nat_lt at t.grace) (Grace t.grace)

-- a row of the committed generation or an older one runs at the reading; the first is named
abbrev pub held_up : Standing → ℕ → Option TableError
held_up t at = option_map (λ row. Held row.task row.kind row.number) (first_up_to (generation_of t.committed) at t.rows)

-- what stands after an accepted reading: rows that have ended are gone
abbrev pub standing_at : Standing → ℕ → Standing
standing_at t at = record t { last = at; rows = running_rows at t.rows }

-- `job_take`
abbrev pub take_checks : Standing → ℕ → List (Option TableError)
take_checks t at = out_of_range at ∷ clock_back t at ∷ job_held at t.term ∷ []

abbrev pub term_taken : Standing → ℕ → ℕ → JobTerm
term_taken t assigner at = record { number = last_number t.term + 1; assigner = assigner; until = at + t.policy.job }

abbrev pub take_step : Standing → ℕ → ℕ → Result (Standing × JobTerm) TableError
take_step t assigner at = answer (take_checks t at) (record (standing_at t at) { term = Some (term_taken t assigner at) }, term_taken t assigner at)

-- `job_renew`
abbrev pub renew_checks : Standing → ℕ → ℕ → List (Option TableError)
renew_checks t number at = out_of_range at ∷ clock_back t at ∷ not_holder t number at ∷ []

-- the same term with a new end
abbrev pub renewed_term : ℕ → Option JobTerm → JobTerm
renewed_term until None = record { number = 0; assigner = 0; until = until }
renewed_term until (Some term) = record term { until = until }

abbrev pub renew_step : Standing → ℕ → ℕ → Result (Standing × JobTerm) TableError
renew_step t number at =
    let term = renewed_term (at + t.policy.job) t.term in
    answer (renew_checks t number at) (record (standing_at t at) { term = Some term }, term)

-- `propose`, of which it is asked whether some slice has too many owners
abbrev pub proposal_checks : Standing → ℕ → ℕ → Bool → ℕ → List (Option TableError)
proposal_checks t number generation too_many at =
    out_of_range at ∷ clock_back t at ∷ not_holder t number at ∷
    when (not (generation == generation_of t.committed + 1)) (StaleBase (generation_of t.committed)) ∷
    when (is_some t.pending) Pending ∷
    when too_many TooManyOwnersForJob ∷ []

abbrev pub propose_checks : Standing → ℕ → Slicing → ℕ → List (Option TableError)
propose_checks t number slicing at =
    proposal_checks t number slicing.generation (list_any (λ s. nat_lt t.policy.high (length s.owners)) slicing.slices) at

abbrev pub propose_step : Standing → ℕ → Slicing → ℕ → Result (Standing × Unit {0}) TableError
propose_step t number slicing at = answer (propose_checks t number slicing at) (record (standing_at t at) { pending = Some slicing }, tt)

-- `commit`
abbrev pub commit_checks : Standing → ℕ → ℕ → List (Option TableError)
commit_checks t number at =
    out_of_range at ∷ clock_back t at ∷ not_holder t number at ∷ when (is_none t.pending) NothingPending ∷ in_grace t at ∷ held_up t at ∷ []

abbrev pub commit_step : Standing → ℕ → ℕ → Result (Standing × ℕ) TableError
commit_step t number at =
    answer (commit_checks t number at) (record (standing_at t at) { committed = t.pending; pending = None }, generation_of t.pending)

-- `grant`
abbrev pub grant_checks : Standing → ℕ → List (Option TableError)
grant_checks t at =
    out_of_range at ∷ clock_back t at ∷
    when (is_none t.committed && is_none t.pending) NoAssignment ∷
    when (nat_le t.policy.numbers t.granted) NumbersSpent ∷ []

-- a guard lease of the committed assignment has the keys that the task owns in it
abbrev pub guard_of : Standing → ℕ → ℕ → ℕ → Grant
guard_of t task life at = record {
  number = t.granted + 1;
  task = task;
  life = life;
  lease = record {
    kind = Guard;
    generation = generation_of t.committed;
    ranges = keys_where (λ key. owns (slices_of t.committed) key task);
    ends = at + t.policy.guard - t.policy.skew;
  };
  table_ends = at + t.policy.guard;
}

-- a bridge lease has the keys that the task owns in the committed assignment and in the next
abbrev pub bridge_of : Standing → Slicing → ℕ → ℕ → ℕ → Grant
bridge_of t next task life at = record {
  number = t.granted + 1;
  task = task;
  life = life;
  lease = record {
    kind = Bridge;
    generation = next.generation;
    ranges = keys_where (λ key. owns (slices_of t.committed) key task && owns next.slices key task);
    ends = at + t.policy.bridge - t.policy.skew;
  };
  table_ends = at + t.policy.bridge;
}

-- the grant of the phase
abbrev pub grant_with : Standing → Option Slicing → ℕ → ℕ → ℕ → Grant
grant_with t None task life at = guard_of t task life at
grant_with t (Some next) task life at = bridge_of t next task life at

abbrev pub with_row : Standing → ℕ → Row → Standing
with_row t at row = record (standing_at t at) { granted = t.granted + 1; deadline = max t.deadline row.table_ends; rows = running_rows at t.rows ++ row ∷ [] }

abbrev pub grant_step : Standing → ℕ → ℕ → ℕ → Result (Standing × Grant) TableError
grant_step t task life at =
    let grant = grant_with t t.pending task life at in
    answer (grant_checks t at) (with_row t at (row_of grant), grant)

-- `free`
abbrev pub free_checks : Standing → ReleaseNote → ℕ → List (Option TableError)
free_checks t note at = out_of_range at ∷ clock_back t at ∷ when (length (filter (closes note) (running_rows at t.rows)) == 0) NoRow ∷ []

abbrev pub free_step : Standing → ReleaseNote → ℕ → Result (Standing × ℕ) TableError
free_step t note at =
    answer (free_checks t note at) (record (standing_at t at) { rows = rows_left_open note (running_rows at t.rows) }, length (filter (closes note) (running_rows at t.rows)))

-- `restart`, which is never refused: the rows are lost, and no commit is accepted before the greatest
-- deadline that was given; all else is kept
abbrev pub standing_after_restart : Standing → Standing
standing_after_restart t = record t { grace = t.deadline; rows = [] }

abbrev pub restart_step : Standing → Result (Standing × ℕ) TableError
restart_step t = Ok (standing_after_restart t, length t.rows)
