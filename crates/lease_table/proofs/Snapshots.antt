-- The rows of a run are in order, and its values and rows have no fault.
use Rattle.std.proofs.Common.{◌≡◌, ◌∙◌, ℕ, ◌+◌, ◌<◌, ◌≤◌, Bool, true, false, List, [], ◌∷◌, ◌++◌, filter, length, refl, sym, subst, ap, arith, max, length-append}
use Rattle.std.specs.Prelude.{Option, Some, None, Ok, not, nat_lt, option_map, if◌then◌else◌}
use Rattle.std.specs.List.{AllByRecursion, list_all}
use Rattle.std.specs.Option.{option_or}
use Rattle.std.proofs.lemmas.Bool.Decides.{nat_tests}
use Rattle.machines.specs.Calls.{answered_call}
use Rattle.machines.specs.Refusals.{when, first_of}
use Rattle.machines.proofs.Every.{all_weaker, all_push}
use Rattle.assignment.specs.Slices.{Slicing}
use Rattle.grants.specs.declared.table_call.TableCall.{TableCall}
use Rattle.grants.specs.declared.table_call.TableCall.TheVariants as call
use Rattle.grants.specs.declared.table_call.TableReply.{TableReply}
use Rattle.grants.specs.declared.kept.Kept.{Kept}
use Rattle.grants.specs.declared.snapshot.SnapshotFault.{SnapshotFault}
use Rattle.grants.specs.declared.snapshot.SnapshotFault.TheVariants as fault
use Rattle.grants.specs.declared.snapshot.TableSnapshot.{TableSnapshot}
use Rattle.grants.specs.declared.values.Grant.{Grant}
use Rattle.grants.specs.declared.values.Row.{Row}
use Rattle.grants.specs.Policies.{Terms, is_policy}
use Rattle.grants.specs.Rows.{runs_at, running_rows, closes, row_of}
use Rattle.lease_table.specs.Tables.{Standing}
use Rattle.grants.specs.Assignments.{generation_of}
use Rattle.lease_table.specs.Steps.{grant_with}
use Rattle.lease_table.specs.Calls.{AnsweredTableCall, last_reading, committed_in, pending_in, grants_sent, greatest_end, deadline_in, grace_in, kept_rows, open_rows, standing_after}
use Rattle.lease_table.specs.Runs.{IsRun, commits_in}
use Rattle.lease_table.specs.Generations.{newest_with, newest_generation}
use Rattle.lease_table.specs.KeptValues.{kept_of, restored_from}
use Rattle.grants.specs.KeptValues.{kept_checks}
use Rattle.lease_table.specs.Snapshots.{IsSnapshotOf, resumed_from}
use Rattle.grants.specs.Snapshots.{snapshot_checks, numbers_rise, generations_rise, newest_in, ends_between}
use Rattle.lease_table.proofs.Acceptance.{IsAcceptedAfter}
use Rattle.lease_table.proofs.Assignments.{IsCounted, counted, newest_call}
use Rattle.lease_table.proofs.Deadlines.{greatest_push, grace_within}
use Rattle.lease_table.proofs.Induction.{after_run}
use Rattle.lease_table.proofs.KeptValues.{taken, when_not}
use Rattle.lease_table.proofs.RowChecks.{NumbersWithin, GenerationsWithin, AllEndBetween, numbers_test, generations_test, ends_test}
use Rattle.lease_table.proofs.RowOrder.{rise_push, rise_filter}
use Rattle.lease_table.proofs.Running.{all_of_filter}

-- THE ROWS OF A RUN

-- rows in the order of their grants, up to a number, a generation and a deadline
record AreInGrantOrder (granted newest deadline : ℕ) (rows : List Row) : Type 0 where
  numbers : NumbersWithin 0 granted rows
  generations : GenerationsWithin 0 newest rows
  ends : AllByRecursion (λ row. row.table_ends ≤ deadline) rows

none_in_order : (granted newest deadline : ℕ) → AreInGrantOrder granted newest deadline []
none_in_order granted newest deadline = record {
  numbers = record { low = tt; high = tt; rise = tt };
  generations = record { low = tt; high = tt; rise = tt };
  ends = tt;
}

-- some of the rows
some_in_order : (test : Row → Bool) (granted newest deadline : ℕ) (rows : List Row) → AreInGrantOrder granted newest deadline rows
    → AreInGrantOrder granted newest deadline (filter test rows)
some_in_order test granted newest deadline rows h = record {
  numbers = record {
    low = all_of_filter (λ row. 0 < row.number) test rows h.numbers.low;
    high = all_of_filter (λ row. row.number ≤ granted) test rows h.numbers.high;
    rise = rise_filter (λ row later. row.number < later.number) test rows h.numbers.rise;
  };
  generations = record {
    low = all_of_filter (λ row. 0 ≤ row.generation) test rows h.generations.low;
    high = all_of_filter (λ row. row.generation ≤ newest) test rows h.generations.high;
    rise = rise_filter (λ row later. row.generation ≤ later.generation) test rows h.generations.rise;
  };
  ends = all_of_filter (λ row. row.table_ends ≤ deadline) test rows h.ends;
}

-- later, when the newest generation may have grown
later_in_order : (granted newest now deadline : ℕ) (rows : List Row) → newest ≤ now → AreInGrantOrder granted newest deadline rows
    → AreInGrantOrder granted now deadline rows
later_in_order granted newest now deadline rows l h = record {
  numbers = h.numbers;
  generations = record {
    low = h.generations.low;
    high = all_weaker (λ row. row.generation ≤ newest) (λ row. row.generation ≤ now) rows (λ row m. omega (arith, l, m)) h.generations.high;
    rise = h.generations.rise;
  };
  ends = h.ends;
}

-- the row of the next grant goes last
next_in_order : (granted newest deadline : ℕ) (rows : List Row) (row : Row) → row.number ≡ granted + 1 → row.generation ≡ newest
    → AreInGrantOrder granted newest deadline rows → AreInGrantOrder (granted + 1) newest (max deadline row.table_ends) (rows ++ row ∷ [])
next_in_order granted newest deadline rows row number generation h = record {
  numbers = record {
    low = all_push (λ other. 0 < other.number) rows row h.numbers.low (omega (arith, number));
    high = all_push (λ other. other.number ≤ granted + 1) rows row
        (all_weaker (λ other. other.number ≤ granted) (λ other. other.number ≤ granted + 1) rows (λ other m. omega (arith, m)) h.numbers.high) (omega (arith, number));
    rise = rise_push (λ other later. other.number < later.number) rows row h.numbers.rise
        (all_weaker (λ other. other.number ≤ granted) (λ other. other.number < row.number) rows (λ other m. omega (arith, m, number)) h.numbers.high);
  };
  generations = record {
    low = all_push (λ other. 0 ≤ other.generation) rows row h.generations.low (omega arith);
    high = all_push (λ other. other.generation ≤ newest) rows row h.generations.high (omega (arith, generation));
    rise = rise_push (λ other later. other.generation ≤ later.generation) rows row h.generations.rise
        (all_weaker (λ other. other.generation ≤ newest) (λ other. other.generation ≤ row.generation) rows (λ other m. omega (arith, m, generation)) h.generations.high);
  };
  ends = all_push (λ other. other.table_ends ≤ max deadline row.table_ends) rows row
      (all_weaker (λ other. other.table_ends ≤ deadline) (λ other. other.table_ends ≤ max deadline row.table_ends) rows (λ other m. omega (arith, m)) h.ends) (omega arith);
}

abbrev HasRowsInOrder : List AnsweredTableCall → Type 0
HasRowsInOrder past = AreInGrantOrder (length (grants_sent past)) (newest_generation past) (deadline_in past) (kept_rows past)

-- the number and the generation of a grant's row
grant_number : (t : Standing) (task life at : ℕ) (p : Option Slicing) → (grant_with t p task life at).number ≡ t.granted + 1
grant_number t task life at None = refl
grant_number t task life at (Some next) = refl

grant_generation : (policy : Terms) (past : List AnsweredTableCall) (task life at : ℕ) (p : Option Slicing) → IsCounted past → pending_in past ≡ p
    → (grant_with (standing_after policy past) p task life at).lease.generation ≡ newest_with (commits_in past) p
grant_generation policy past task life at None k e = k.committed
grant_generation policy past task life at (Some next) k e = k.pending next e

order_call : (policy : Terms) (past : List AnsweredTableCall) (c : TableCall) (reply : TableReply) → IsRun policy past → HasRowsInOrder past
    → IsAcceptedAfter policy past c reply → HasRowsInOrder (answered_call c (Ok reply) ∷ past)
order_call policy past (call.JobTake assigner at) reply run h a =
    subst (λ (r : TableReply). HasRowsInOrder (answered_call (call.JobTake assigner at) (Ok r) ∷ past)) (sym a.replies) h
order_call policy past (call.JobRenew number at) reply run h a =
    subst (λ (r : TableReply). HasRowsInOrder (answered_call (call.JobRenew number at) (Ok r) ∷ past)) (sym a.replies) h
order_call policy past (call.Propose number slicing at) reply run h a =
    subst (λ (r : TableReply). HasRowsInOrder (answered_call (call.Propose number slicing at) (Ok r) ∷ past)) (sym a.replies)
    (later_in_order (length (grants_sent past)) (newest_generation past) _ (deadline_in past) (kept_rows past) (newest_call (call.Propose number slicing at) (Ok reply) past) h)
order_call policy past (call.Commit number at) reply run h a =
    subst (λ (r : TableReply). HasRowsInOrder (answered_call (call.Commit number at) (Ok r) ∷ past)) (sym a.replies)
    (later_in_order (length (grants_sent past)) (newest_generation past) _ (deadline_in past) (kept_rows past) (newest_call (call.Commit number at) (Ok reply) past) h)
order_call policy past (call.Grant task life at) reply run h a =
    let grant : Grant = grant_with (standing_after policy past) (pending_in past) task life at in
    let counted_now : length (grants_sent past ++ grant ∷ []) ≡ length (grants_sent past) + 1 = length-append (grants_sent past) (grant ∷ []) in
    let greatest : greatest_end (grants_sent past ++ grant ∷ []) ≡ max (greatest_end (grants_sent past)) grant.table_ends = greatest_push (grants_sent past) grant in
    let added = next_in_order (length (grants_sent past)) (newest_generation past) (deadline_in past) (kept_rows past) (row_of grant)
    (grant_number (standing_after policy past) task life at (pending_in past)) (grant_generation policy past task life at (pending_in past) (counted policy past run) refl) h in
    subst (λ (r : TableReply). HasRowsInOrder (answered_call (call.Grant task life at) (Ok r) ∷ past)) (sym a.replies)
    (subst (λ (n : ℕ). AreInGrantOrder n (newest_generation past) (greatest_end (grants_sent past ++ grant ∷ [])) (kept_rows past ++ row_of grant ∷ [])) (sym counted_now)
    (subst (λ (d : ℕ). AreInGrantOrder (length (grants_sent past) + 1) (newest_generation past) d (kept_rows past ++ row_of grant ∷ [])) (sym greatest) added))
order_call policy past (call.Free note at) reply run h a =
    subst (λ (r : TableReply). HasRowsInOrder (answered_call (call.Free note at) (Ok r) ∷ past)) (sym a.replies)
    (some_in_order (λ row. not (closes note row)) (length (grants_sent past)) (newest_generation past) (deadline_in past) (kept_rows past) h)
order_call policy past call.Restart reply run h a =
    subst (λ (r : TableReply). HasRowsInOrder (answered_call call.Restart (Ok r) ∷ past)) (sym a.replies)
    (none_in_order (length (grants_sent past)) (newest_generation past) (deadline_in past))

rows_of_run : (policy : Terms) (past : List AnsweredTableCall) → IsRun policy past → HasRowsInOrder past
rows_of_run policy =
    after_run policy HasRowsInOrder (none_in_order 0 0 0) (λ past c refusal h. h) (λ past c reply run h a. order_call policy past c reply run h a)

-- rows that run at a reading end after it
ends_between_of : (last deadline : ℕ) (rows : List Row) → AllByRecursion (λ row. row.table_ends ≤ deadline) rows → AllEndBetween last deadline (running_rows last rows)
ends_between_of last deadline [] h = tt
ends_between_of last deadline (row ∷ rows) h = by_test (runs_at last row) refl (ends_between_of last deadline rows h.1)
  where
    by_test : (b : Bool) → runs_at last row ≡ b → AllEndBetween last deadline (running_rows last rows)
        → AllEndBetween last deadline (if b then row ∷ running_rows last rows else running_rows last rows)
    by_test true e rest = let test : nat_lt last row.table_ends ≡ true = e in ((grind (arith, nat_tests), h.0), rest)
    by_test false e rest = rest

-- THE VALUES AND ROWS OF A RUN HAVE NO FAULT

none_first : (checks : List (Option SnapshotFault)) → AllByRecursion (λ (c : Option SnapshotFault). c ≡ None) checks → first_of checks ≡ None
none_first [] h = refl
none_first (None ∷ checks) h = none_first checks h.1
none_first (Some found ∷ checks) h = absurd (let e : Some found ≡ None = h.0 in cc)

unrefused : (b : Bool) (found : SnapshotFault) → b ≡ true → when (not b) found ≡ None
unrefused true found e = refl
unrefused false found e = absurd (cc)

newest_of_run : (past : List AnsweredTableCall) (p : Option Slicing) → IsCounted past → pending_in past ≡ p
    → generation_of (option_or p (committed_in past)) ≡ newest_with (commits_in past) p
newest_of_run past None k e = k.committed
newest_of_run past (Some next) k e = k.pending next e

-- a snapshot's values are those of the table built from it
pub resumed_is : (t : Standing) (s : TableSnapshot) → IsSnapshotOf t s → resumed_from s ≡ t
resumed_is t s h =
    let standing : Kept → ℕ → List Row → Standing = λ kept grace rows. record (restored_from kept) { grace = grace; rows = rows } in
    λ j. standing (h.kept j) (h.grace j) (h.rows j)

module _ (policy : Terms) (within : is_policy policy ≡ true) (past : List AnsweredTableCall) (run : IsRun policy past) where
  rows_pass : AreInGrantOrder (length (grants_sent past)) (newest_generation past) (deadline_in past) (open_rows past)
  rows_pass = some_in_order (runs_at (last_reading past)) (length (grants_sent past)) (newest_generation past) (deadline_in past) (kept_rows past) (rows_of_run policy past run)

  -- the checks, of values and rows that are each those of the table
  abbrev checks_of : Kept → ℕ → List Row → List (Option SnapshotFault)
  checks_of kept grace rows =
      option_map fault.Kept (first_of (kept_checks policy kept)) ∷
      when (nat_lt kept.deadline grace) fault.Grace ∷
      when (not (numbers_rise 0 kept.granted rows)) fault.RowNumber ∷
      when (not (generations_rise 0 (newest_in kept) rows)) fault.RowGeneration ∷
      when (not (list_all (ends_between kept.last kept.deadline) rows)) fault.RowEnd ∷ []

  no_fault : first_of (checks_of (kept_of (standing_after policy past)) (grace_in past) (open_rows past)) ≡ None
  no_fault =
      let grace : grace_in past ≤ deadline_in past = grace_within past in
      let above : nat_lt (deadline_in past) (grace_in past) ≡ false = grind (arith, nat_tests) in
      let newest = newest_of_run past (pending_in past) (counted policy past run) refl in
      none_first (checks_of (kept_of (standing_after policy past)) (grace_in past) (open_rows past)) (
        ap (option_map fault.Kept) (taken policy within past run),
        (
          when_not _ _ above,
          (
            unrefused _ _ (numbers_test 0 (length (grants_sent past)) (open_rows past) rows_pass.numbers),
            (
              unrefused _ _ (generations_test 0 _ (open_rows past) (subst (λ (n : ℕ). GenerationsWithin 0 n (open_rows past)) (sym newest) rows_pass.generations)),
              (
                unrefused _ _ (ends_test (last_reading past) (deadline_in past) (open_rows past)
                    (ends_between_of (last_reading past) (deadline_in past) (kept_rows past) (rows_of_run policy past run).ends)),
                tt,
              ),
            ),
          ),
        ),
      )

  pub snapshot_taken : (s : TableSnapshot) → IsSnapshotOf (standing_after policy past) s → first_of (snapshot_checks policy s) ≡ None
  snapshot_taken s h =
      let same : first_of (snapshot_checks policy s) ≡ first_of (checks_of (kept_of (standing_after policy past)) (grace_in past) (open_rows past)) =
      λ j. first_of (checks_of (h.kept j) (h.grace j) (h.rows j)) in
      same ∙ no_fault
