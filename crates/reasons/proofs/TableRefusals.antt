-- What the refusal of a call by the table says of what the table stands at.
use Rattle.std.proofs.Common.{◌≡◌, ℕ, ◌<◌, Bool, true, false, List, [], ◌∷◌, refl, sym, ap, arith}
use Rattle.std.specs.Prelude.{Option, Some, None, Err, not, ◌==◌, ◌+◌, ◌&&◌, nat_lt, nat_le, is_some, is_none, length, filter, option_map}
use Rattle.std.specs.List.{list_any}
use Rattle.std.proofs.lemmas.Bool.Decides.{nat_tests}
use Rattle.machines.specs.Refusals.{when, first_of}
use Rattle.lease_rule.specs.declared.lease.Kind.{Kind}
use Rattle.assignment.specs.Slices.{Slicing}
use Rattle.grants.specs.declared.policy.TheConstants.{READINGS}
use Rattle.grants.specs.declared.table_call.TableCall.{TableCall}
use Rattle.grants.specs.declared.table_call.TableCall.TheVariants as asked
use Rattle.grants.specs.declared.table_error.TableError.{TableError}
use Rattle.grants.specs.declared.table_error.TableError.TheVariants.{ReadingRange, ClockBack, JobHeld, NotHolder, StaleBase, Pending, NothingPending, TooManyOwnersForJob, Grace, Held, NoRow, NoAssignment, NumbersSpent}
use Rattle.grants.specs.declared.values.JobTerm.{JobTerm}
use Rattle.grants.specs.declared.values.ReleaseNote.{ReleaseNote}
use Rattle.grants.specs.declared.values.Row.{Row}
use Rattle.grants.specs.Assignments.{generation_of}
use Rattle.grants.specs.JobTerms.{last_number}
use Rattle.grants.specs.Rows.{closes, running_rows, runs_at, first_up_to}
use Rattle.lease_table.specs.Calls.{table_step}
use Rattle.lease_table.specs.Steps.{is_holder, job_held, held_up, take_checks, renew_checks, propose_checks, commit_checks, grant_checks, free_checks}
use Rattle.lease_table.specs.Tables.{Standing}
use Rattle.job_calls.specs.declared.call.ClusterCall.TheVariants as call
use Rattle.reasons.specs.Reasons.{by_table, IsTableReading, IsHeldReason, IsHolderAt, IsNoHolder, IsTermReason}
use Rattle.reasons.proofs.Checks.{first_check, passed, holds, same, never, no_check, found}

-- A READING THAT GOES BACK

module _ (t : Standing) (at : ℕ) where
  abbrev back : Option TableError
  back = when (nat_lt at t.last) ClockBack

  -- of checks that begin with those of the reading
  back_first : (checks : List (Option TableError)) → (first_of checks ≡ Some ClockBack → ⊥)
      → first_of (when (nat_le READINGS at) ReadingRange ∷ back ∷ checks) ≡ Some ClockBack → at < t.last
  back_first checks none is =
      let test : nat_lt at t.last ≡ true = holds ClockBack (nat_lt at t.last) ClockBack checks none
      (passed ClockBack (nat_le READINGS at) ReadingRange (back ∷ checks) (λ x. cc) is) in
      grind (arith, nat_tests)

  no_holder : (number : ℕ) (checks : List (Option TableError)) → (first_of checks ≡ Some ClockBack → ⊥)
      → first_of (when (not (is_holder number at t.term)) (NotHolder (last_number t.term)) ∷ checks) ≡ Some ClockBack → ⊥
  no_holder number checks none = never ClockBack (not (is_holder number at t.term)) (NotHolder (last_number t.term)) checks (λ x. cc) none

  by_term : (o : Option JobTerm) → first_of (job_held at o ∷ []) ≡ Some ClockBack → ⊥
  by_term None is = cc
  by_term (Some term) is = never ClockBack (nat_lt at term.until) (JobHeld term.until) [] (λ x. cc) (no_check ClockBack) is

  by_row : (o : Option Row) → first_of (option_map (λ row. Held row.task row.kind row.number) o ∷ []) ≡ Some ClockBack → ⊥
  by_row None is = cc
  by_row (Some row) is = cc

  take_back : first_of (take_checks t at) ≡ Some ClockBack → at < t.last
  take_back is = back_first (job_held at t.term ∷ []) (by_term t.term) is

  renew_back : (number : ℕ) → first_of (renew_checks t number at) ≡ Some ClockBack → at < t.last
  renew_back number is =
      back_first (when (not (is_holder number at t.term)) (NotHolder (last_number t.term)) ∷ []) (no_holder number [] (no_check ClockBack)) is

  propose_back : (number : ℕ) (slicing : Slicing) → first_of (propose_checks t number slicing at) ≡ Some ClockBack → at < t.last
  propose_back number slicing is =
      let too_many = list_any (λ s. nat_lt t.policy.high (length s.owners)) slicing.slices in
      let e3 : List (Option TableError) = when too_many TooManyOwnersForJob ∷ [] in
      let e2 : List (Option TableError) = when (is_some t.pending) Pending ∷ e3 in
      let e1 : List (Option TableError) = when (not (slicing.generation == generation_of t.committed + 1)) (StaleBase (generation_of t.committed)) ∷ e2 in
      back_first (when (not (is_holder number at t.term)) (NotHolder (last_number t.term)) ∷ e1) (no_holder number e1
      (never ClockBack (not (slicing.generation == generation_of t.committed + 1)) (StaleBase (generation_of t.committed)) e2 (λ x. cc)
      (never ClockBack (is_some t.pending) Pending e3 (λ x. cc)
      (never ClockBack too_many TooManyOwnersForJob [] (λ x. cc) (no_check ClockBack))))) is

  commit_back : (number : ℕ) → first_of (commit_checks t number at) ≡ Some ClockBack → at < t.last
  commit_back number is =
      let e3 : List (Option TableError) = held_up t at ∷ [] in
      let e2 : List (Option TableError) = when (nat_lt at t.grace) (Grace t.grace) ∷ e3 in
      let e1 : List (Option TableError) = when (is_none t.pending) NothingPending ∷ e2 in
      back_first (when (not (is_holder number at t.term)) (NotHolder (last_number t.term)) ∷ e1) (no_holder number e1
      (never ClockBack (is_none t.pending) NothingPending e2 (λ x. cc)
      (never ClockBack (nat_lt at t.grace) (Grace t.grace) e3 (λ x. cc) (by_row (first_up_to (generation_of t.committed) at t.rows))))) is

  grant_back : first_of (grant_checks t at) ≡ Some ClockBack → at < t.last
  grant_back is =
      let e1 : List (Option TableError) = when (nat_le t.policy.numbers t.granted) NumbersSpent ∷ [] in
      back_first (when (is_none t.committed && is_none t.pending) NoAssignment ∷ e1)
      (never ClockBack (is_none t.committed && is_none t.pending) NoAssignment e1 (λ x. cc)
      (never ClockBack (nat_le t.policy.numbers t.granted) NumbersSpent [] (λ x. cc) (no_check ClockBack))) is

  free_back : (note : ReleaseNote) → first_of (free_checks t note at) ≡ Some ClockBack → at < t.last
  free_back note is =
      let none = length (filter (closes note) (running_rows at t.rows)) == 0 in
      back_first (when none NoRow ∷ []) (never ClockBack none NoRow [] (λ x. cc) (no_check ClockBack)) is

  reading_of : (c : TableCall) → Rattle.grants.specs.TableCalls.reading_of c ≡ Some at → at < t.last
      → IsTableReading t (call.Table c) (by_table ClockBack) t.last
  reading_of c reads below = record { told = refl; is = refl; at = at; reads = ap Rattle.job_calls.specs.Readings.at_table reads; below = below }

pub table_back : (t : Standing) (c : TableCall) → table_step t c ≡ Err ClockBack → IsTableReading t (call.Table c) (by_table ClockBack) t.last
table_back t (asked.JobTake assigner at) is = reading_of t at (asked.JobTake assigner at) refl (take_back t at (first_check _ _ ClockBack (first_of (take_checks t at)) is))
table_back t (asked.JobRenew number at) is = reading_of t at (asked.JobRenew number at) refl (renew_back t at number (first_check _ _ ClockBack (first_of (renew_checks t number at)) is))
table_back t (asked.Propose number slicing at) is = reading_of t at (asked.Propose number slicing at) refl (propose_back t at number slicing (first_check _ _ ClockBack (first_of (propose_checks t number slicing at)) is))
table_back t (asked.Commit number at) is = reading_of t at (asked.Commit number at) refl (commit_back t at number (first_check _ _ ClockBack (first_of (commit_checks t number at)) is))
table_back t (asked.Grant task life at) is = reading_of t at (asked.Grant task life at) refl (grant_back t at (first_check _ _ ClockBack (first_of (grant_checks t at)) is))
table_back t (asked.Free note at) is = reading_of t at (asked.Free note at) refl (free_back t at note (first_check _ _ ClockBack (first_of (free_checks t note at)) is))
table_back t asked.Restart is = absurd (cc)

-- THE JOB LEASE

by_last : (at until : ℕ) (o : Option JobTerm) → first_of (job_held at o ∷ []) ≡ Some (JobHeld until) → IsHolderAt at (by_table (JobHeld until)) o
by_last at until None is = absurd (cc)
by_last at until (Some term) is =
    let test : nat_lt at term.until ≡ true = holds (JobHeld until) (nat_lt at term.until) (JobHeld term.until) [] (no_check (JobHeld until)) is in
    let ends : JobHeld term.until ≡ JobHeld until = same (JobHeld until) (nat_lt at term.until) (JobHeld term.until) [] (no_check (JobHeld until)) is in
    (ap (λ (e : TableError). by_table e) (sym ends), grind (arith, nat_tests))

pub take_term : (t : Standing) (assigner at until : ℕ) → table_step t (asked.JobTake assigner at) ≡ Err (JobHeld until)
    → IsTermReason t (call.Table (asked.JobTake assigner at)) (by_table (JobHeld until)) t.term
take_term t assigner at until is =
    let checks : first_of (take_checks t at) ≡ Some (JobHeld until) = first_check _ _ (JobHeld until) (first_of (take_checks t at)) is in
    let rest : List (Option TableError) = job_held at t.term ∷ [] in
    let last = passed (JobHeld until) (nat_lt at t.last) ClockBack rest (λ x. cc)
    (passed (JobHeld until) (nat_le READINGS at) ReadingRange (when (nat_lt at t.last) ClockBack ∷ rest) (λ x. cc) checks) in
    record { is = refl; made = asked.JobTake assigner at; calls = refl; decides = by_last at until t.term last }

module _ (t : Standing) (number at n : ℕ) where
  abbrev e : TableError
  e = NotHolder n

  -- of checks that begin with those of the reading and of the term
  passes : (checks : List (Option TableError)) → (first_of checks ≡ Some e → ⊥)
      → first_of (when (nat_le READINGS at) ReadingRange ∷ when (nat_lt at t.last) ClockBack ∷ when (not (is_holder number at t.term)) (NotHolder (last_number t.term)) ∷ checks) ≡ Some e
      → IsNoHolder number at (by_table e) t.term
  passes checks none is =
      let why : TableError = NotHolder (last_number t.term) in
      let b : Bool = not (is_holder number at t.term) in
      let last = passed e (nat_lt at t.last) ClockBack (when b why ∷ checks) (λ x. cc)
      (passed e (nat_le READINGS at) ReadingRange (when (nat_lt at t.last) ClockBack ∷ when b why ∷ checks) (λ x. cc) is) in
      let test : not (is_holder number at t.term) ≡ true = holds e b why checks none last in
      let told : why ≡ e = same e b why checks none last in
      (ap (λ (w : TableError). by_table w) (sym told), negated (is_holder number at t.term) test)
    where
      negated : (b : Bool) → not b ≡ true → b ≡ false
      negated true is = absurd (cc)
      negated false is = refl

  by_row_held : (o : Option Row) → first_of (option_map (λ row. Held row.task row.kind row.number) o ∷ []) ≡ Some e → ⊥
  by_row_held None is = cc
  by_row_held (Some row) is = cc

  pub renew_term : table_step t (asked.JobRenew number at) ≡ Err e → IsTermReason t (call.Table (asked.JobRenew number at)) (by_table e) t.term
  renew_term is =
      record { is = refl; made = asked.JobRenew number at; calls = refl; decides = passes [] (no_check e) (first_check _ _ e (first_of (renew_checks t number at)) is) }

  pub propose_term : (slicing : Slicing) → table_step t (asked.Propose number slicing at) ≡ Err e
      → IsTermReason t (call.Table (asked.Propose number slicing at)) (by_table e) t.term
  propose_term slicing is =
      let too_many = list_any (λ s. nat_lt t.policy.high (length s.owners)) slicing.slices in
      let e3 : List (Option TableError) = when too_many TooManyOwnersForJob ∷ [] in
      let e2 : List (Option TableError) = when (is_some t.pending) Pending ∷ e3 in
      let stale : Bool = not (slicing.generation == generation_of t.committed + 1) in
      let e1 : List (Option TableError) = when stale (StaleBase (generation_of t.committed)) ∷ e2 in
      record {
        is = refl;
        made = asked.Propose number slicing at;
        calls = refl;
        decides = passes e1 (never e stale (StaleBase (generation_of t.committed)) e2 (λ x. cc) (never e (is_some t.pending) Pending e3 (λ x. cc)
            (never e too_many TooManyOwnersForJob [] (λ x. cc) (no_check e)))) (first_check _ _ e (first_of (propose_checks t number slicing at)) is);
      }

  pub commit_term : table_step t (asked.Commit number at) ≡ Err e → IsTermReason t (call.Table (asked.Commit number at)) (by_table e) t.term
  commit_term is =
      let e3 : List (Option TableError) = held_up t at ∷ [] in
      let e2 : List (Option TableError) = when (nat_lt at t.grace) (Grace t.grace) ∷ e3 in
      let e1 : List (Option TableError) = when (is_none t.pending) NothingPending ∷ e2 in
      record {
        is = refl;
        made = asked.Commit number at;
        calls = refl;
        decides = passes e1 (never e (is_none t.pending) NothingPending e2 (λ x. cc) (never e (nat_lt at t.grace) (Grace t.grace) e3 (λ x. cc)
            (by_row_held (first_up_to (generation_of t.committed) at t.rows)))) (first_check _ _ e (first_of (commit_checks t number at)) is);
      }

-- A COMMIT THAT IS HELD UP

module _ (t : Standing) (by at task number : ℕ) (kind : Kind) where
  abbrev held : TableError
  held = Held task kind number

  last_check : table_step t (asked.Commit by at) ≡ Err held → first_of (held_up t at ∷ []) ≡ Some held
  last_check is =
      let e5 : List (Option TableError) = held_up t at ∷ [] in
      let e4 : List (Option TableError) = when (nat_lt at t.grace) (Grace t.grace) ∷ e5 in
      let e3 : List (Option TableError) = when (is_none t.pending) NothingPending ∷ e4 in
      let e2 : List (Option TableError) = when (not (is_holder by at t.term)) (NotHolder (last_number t.term)) ∷ e3 in
      let e1 : List (Option TableError) = when (nat_lt at t.last) ClockBack ∷ e2 in
      passed held (nat_lt at t.grace) (Grace t.grace) e5 (λ x. cc)
      (passed held (is_none t.pending) NothingPending e4 (λ x. cc)
      (passed held (not (is_holder by at t.term)) (NotHolder (last_number t.term)) e3 (λ x. cc)
      (passed held (nat_lt at t.last) ClockBack e2 (λ x. cc)
      (passed held (nat_le READINGS at) ReadingRange e1 (λ x. cc) (first_check _ _ held (first_of (commit_checks t by at)) is)))))

  by_first : (o : Option Row) → first_up_to (generation_of t.committed) at t.rows ≡ o
      → first_of (option_map (λ row. Held row.task row.kind row.number) o ∷ []) ≡ Some held → (row : Row) × (o ≡ Some row) × (by_table held ≡ by_table (Held row.task row.kind row.number))
  by_first None is e = absurd (cc)
  by_first (Some row) is e = (row, refl, (let same : Held row.task row.kind row.number ≡ held = cc in ap (λ (w : TableError). by_table w) (sym same)))

  both : (a b : Bool) → (a && b) ≡ true → (a ≡ true) × (b ≡ true)
  both true b e = (refl, e)
  both false b e = absurd (cc)

  pub held_reason : table_step t (asked.Commit by at) ≡ Err held → (row : Row) × (first_up_to (generation_of t.committed) at t.rows ≡ Some row)
      × IsHeldReason t (call.Table (asked.Commit by at)) (by_table held) row
  held_reason is =
      let generation : ℕ = generation_of t.committed in
      let f = by_first (first_up_to generation at t.rows) refl (last_check is) in
      let row : Row = f.0 in
      let tests = both (nat_le row.generation generation) (runs_at at row) (found (λ (r : Row). nat_le r.generation generation && runs_at at r) t.rows row f.1) in
      let below : nat_lt at row.table_ends ≡ true = tests.1 in
      let up_to : nat_le row.generation generation ≡ true = tests.0 in (
        row,
        f.1,
        record {
          number = by;
          at = at;
          commits = refl;
          told = f.2;
          first = f.1;
          reached = grind (arith, nat_tests);
          runs = grind (arith, nat_tests);
        },
      )
