-- What the checks of rows say of them, and the table built from rows that pass.
use Rattle.std.proofs.Common.{◌≡◌, ℕ, zero, suc, ◌<◌, ◌≤◌, Bool, true, false, List, [], ◌∷◌, length, refl, sym, subst, take, get_or, arith, ap}
use Rattle.std.specs.Prelude.{Option, Some, None, not, nat_lt, nat_le, option_map, ◌&&◌}
use Rattle.std.specs.List.{AllByRecursion, list_all}
use Rattle.std.specs.Option.{option_or}
use Rattle.std.proofs.lemmas.Bool.Decides.{nat_tests}
use Rattle.machines.specs.Refusals.{first_of}
use Rattle.machines.proofs.Every.{all_weaker}
use Rattle.machines.proofs.Refused.{all_none, not_when}
use Rattle.assignment.specs.Slices.{Slicing}
use Rattle.grants.specs.declared.kept.KeptFault.{KeptFault}
use Rattle.grants.specs.declared.snapshot.SnapshotFault.TheVariants as fault
use Rattle.grants.specs.declared.snapshot.TableSnapshot.{TableSnapshot}
use Rattle.grants.specs.declared.values.Row.{Row}
use Rattle.grants.specs.Policies.{Terms, is_policy}
use Rattle.grants.specs.Rows.{runs_at, running_rows}
use Rattle.grants.specs.Assignments.{generation_of}
use Rattle.grants.specs.KeptValues.{kept_checks}
use Rattle.grants.specs.Snapshots.{snapshot_checks, numbers_rise, generations_rise, newest_in, ends_between}
use Rattle.lease_table.specs.internals.Numbers.{IsInRange, newest_of}
use Rattle.lease_table.specs.internals.RowOrder.{AllRise, NumbersRise, GenerationsRise}
use Rattle.lease_table.proofs.KeptValues.{in_range}

-- A ROW AND THOSE BEFORE IT

one_of_all : (P : Row → Type 0) (rows : List Row) (i : ℕ) (row : Row) → AllByRecursion P rows → i < length rows → row ≡ get_or rows i row → P row
one_of_all P [] i row h within e = absurd (omega arith)
one_of_all P (first ∷ rows) zero row h within e = subst P (sym e) h.0
one_of_all P (first ∷ rows) (suc i) row h within e = one_of_all P rows i row h.1 (omega arith) e

-- all rows before one come before it in the order
pub all_before : (Before : Row → Row → Type 0) (rows : List Row) (i : ℕ) (row : Row) → AllRise Before rows → i < length rows → row ≡ get_or rows i row
    → AllByRecursion (λ other. Before other row) (take i rows)
all_before Before [] i row h within e = absurd (omega arith)
all_before Before (first ∷ rows) zero row h within e = tt
all_before Before (first ∷ rows) (suc i) row h within e =
    (one_of_all (λ later. Before first later) rows i row h.0 (omega arith) e, all_before Before rows i row h.1 (omega arith) e)

-- THE TESTS

three_parts : (a b c : Bool) → (a && b && c) ≡ true → (a ≡ true) × (b ≡ true) × (c ≡ true)
three_parts true true true e = (refl, refl, refl)
three_parts true true false e = absurd (cc)
three_parts true false true e = absurd (cc)
three_parts true false false e = absurd (cc)
three_parts false b c e = absurd (cc)

three_true : (a b c : Bool) → a ≡ true → b ≡ true → c ≡ true → (a && b && c) ≡ true
three_true true true true e f g = refl
three_true true true false e f g = g
three_true true false c e f g = absurd (cc)
three_true false b c e f g = absurd (cc)

lt_of : (a b : ℕ) → nat_lt a b ≡ true → a < b
lt_of a b e = grind (arith, nat_tests)

le_of : (a b : ℕ) → nat_le a b ≡ true → a ≤ b
le_of a b e = grind (arith, nat_tests)

lt_test : (a b : ℕ) → a < b → nat_lt a b ≡ true
lt_test a b l = grind (arith, nat_tests)

le_test : (a b : ℕ) → a ≤ b → nat_le a b ≡ true
le_test a b l = grind (arith, nat_tests)

-- numbers from above one that rise up to the most
pub record NumbersWithin (before most : ℕ) (rows : List Row) : Type 0 where
  pub low : AllByRecursion (λ row. before < row.number) rows
  pub high : AllByRecursion (λ row. row.number ≤ most) rows
  pub rise : NumbersRise rows

pub numbers_of : (before most : ℕ) (rows : List Row) → numbers_rise before most rows ≡ true → NumbersWithin before most rows
numbers_of before most [] e = record { low = tt; high = tt; rise = tt }
numbers_of before most (row ∷ rows) e =
    let p = three_parts (nat_lt before row.number) (nat_le row.number most) (numbers_rise row.number most rows) e in
    let rest = numbers_of row.number most rows p.2 in
    let l = lt_of before row.number p.0 in
    record {
      low = (l, all_weaker (λ later. row.number < later.number) (λ later. before < later.number) rows (λ later m. omega (arith, l, m)) rest.low);
      high = (le_of row.number most p.1, rest.high);
      rise = (rest.low, rest.rise);
    }

pub numbers_test : (before most : ℕ) (rows : List Row) → NumbersWithin before most rows → numbers_rise before most rows ≡ true
numbers_test before most [] h = refl
numbers_test before most (row ∷ rows) h =
    three_true (nat_lt before row.number) (nat_le row.number most) (numbers_rise row.number most rows) (lt_test before row.number h.low.0) (le_test row.number most h.high.0)
    (numbers_test row.number most rows (record { low = h.rise.0; high = h.high.1; rise = h.rise.1 }))

-- generations from one that never fall up to the newest
pub record GenerationsWithin (before newest : ℕ) (rows : List Row) : Type 0 where
  pub low : AllByRecursion (λ row. before ≤ row.generation) rows
  pub high : AllByRecursion (λ row. row.generation ≤ newest) rows
  pub rise : GenerationsRise rows

pub generations_of : (before newest : ℕ) (rows : List Row) → generations_rise before newest rows ≡ true → GenerationsWithin before newest rows
generations_of before newest [] e = record { low = tt; high = tt; rise = tt }
generations_of before newest (row ∷ rows) e =
    let p = three_parts (nat_le before row.generation) (nat_le row.generation newest) (generations_rise row.generation newest rows) e in
    let rest = generations_of row.generation newest rows p.2 in
    let l = le_of before row.generation p.0 in
    record {
      low = (l, all_weaker (λ later. row.generation ≤ later.generation) (λ later. before ≤ later.generation) rows (λ later m. omega (arith, l, m)) rest.low);
      high = (le_of row.generation newest p.1, rest.high);
      rise = (rest.low, rest.rise);
    }

pub generations_test : (before newest : ℕ) (rows : List Row) → GenerationsWithin before newest rows → generations_rise before newest rows ≡ true
generations_test before newest [] h = refl
generations_test before newest (row ∷ rows) h =
    three_true (nat_le before row.generation) (nat_le row.generation newest) (generations_rise row.generation newest rows) (le_test before row.generation h.low.0) (le_test row.generation newest h.high.0)
    (generations_test row.generation newest rows (record { low = h.rise.0; high = h.high.1; rise = h.rise.1 }))

-- rows that end after a reading, and not after the deadline
abbrev pub AllEndBetween : ℕ → ℕ → List Row → Type 0
AllEndBetween last deadline rows = AllByRecursion (λ row. (last < row.table_ends) × (row.table_ends ≤ deadline)) rows

both_parts : (a b : Bool) → (a && b) ≡ true → (a ≡ true) × (b ≡ true)
both_parts true true e = (refl, refl)
both_parts true false e = absurd (cc)
both_parts false b e = absurd (cc)

both_true : (a b : Bool) → a ≡ true → b ≡ true → (a && b) ≡ true
both_true true true e f = refl
both_true true false e f = f
both_true false b e f = absurd (cc)

pub ends_of : (last deadline : ℕ) (rows : List Row) → list_all (ends_between last deadline) rows ≡ true → AllEndBetween last deadline rows
ends_of last deadline [] e = tt
ends_of last deadline (row ∷ rows) e =
    let p = both_parts (ends_between last deadline row) (list_all (ends_between last deadline) rows) e in
    let own = both_parts (nat_lt last row.table_ends) (nat_le row.table_ends deadline) p.0 in
    ((lt_of last row.table_ends own.0, le_of row.table_ends deadline own.1), ends_of last deadline rows p.1)

pub ends_test : (last deadline : ℕ) (rows : List Row) → AllEndBetween last deadline rows → list_all (ends_between last deadline) rows ≡ true
ends_test last deadline [] h = refl
ends_test last deadline (row ∷ rows) h =
    both_true (ends_between last deadline row) (list_all (ends_between last deadline) rows)
    (both_true (nat_lt last row.table_ends) (nat_le row.table_ends deadline) (lt_test last row.table_ends h.0.0) (le_test row.table_ends deadline h.0.1)) (ends_test last deadline rows h.1)

-- they end after 0
pub ends_run : (last deadline : ℕ) (rows : List Row) → AllEndBetween last deadline rows → AllByRecursion (λ row. 0 < row.table_ends) rows
ends_run last deadline rows h =
    all_weaker (λ row. (last < row.table_ends) × (row.table_ends ≤ deadline)) (λ row. 0 < row.table_ends) rows (λ row p. let l = p.0 in omega (arith, l)) h

-- rows that run at a reading are those that run at it
pub all_running : (last deadline : ℕ) (rows : List Row) → AllEndBetween last deadline rows → running_rows last rows ≡ rows
all_running last deadline [] h = refl
all_running last deadline (row ∷ rows) h =
    let runs : runs_at last row ≡ true = lt_test last row.table_ends h.0.0 in
    rw runs (ap (λ (rs : List Row). row ∷ rs) (all_running last deadline rows h.1))

-- ROWS WITHOUT A FAULT

pub newest_is : (committed pending : Option Slicing) → generation_of (option_or pending committed) ≡ newest_of committed pending
newest_is committed None = refl
newest_is committed (Some next) = refl

pub record ArePassed (s : TableSnapshot) : Type 0 where
  pub numbers : NumbersWithin 0 s.kept.granted s.rows.items
  pub generations : GenerationsWithin 0 (newest_in s.kept) s.rows.items
  pub ends : AllEndBetween s.kept.last s.kept.deadline s.rows.items

pub unnegated : (b : Bool) → not b ≡ false → b ≡ true
unnegated true e = refl
unnegated false e = absurd (cc)

pub no_kept_fault : (o : Option KeptFault) → option_map fault.Kept o ≡ None → o ≡ None
no_kept_fault None e = refl
no_kept_fault (Some kept) e = absurd (cc)

pub passed : (policy : Terms) (s : TableSnapshot) → first_of (snapshot_checks policy s) ≡ None → ArePassed s
passed policy s e =
    let none = all_none (snapshot_checks policy s) e in
    record {
      numbers = numbers_of 0 s.kept.granted s.rows.items (unnegated _ (not_when _ _ none.1.1.0));
      generations = generations_of 0 (newest_in s.kept) s.rows.items (unnegated _ (not_when _ _ none.1.1.1.0));
      ends = ends_of s.kept.last s.kept.deadline s.rows.items (unnegated _ (not_when _ _ none.1.1.1.1.0));
    }

-- values and rows without a fault are in range
pub rows_in_range : (policy : Terms) (s : TableSnapshot) → is_policy s.kept.policy ≡ true → first_of (snapshot_checks policy s) ≡ None
    → IsInRange s.kept.last s.kept.policy.job s.kept.granted (newest_of s.kept.committed s.kept.pending) s.kept.term s.rows.items
rows_in_range policy s within e =
    let none = all_none (snapshot_checks policy s) e in
    let kept = in_range policy s.kept within (no_kept_fault (first_of (kept_checks policy s.kept)) none.0) in
    let p = passed policy s e in
    record {
      reading = kept.reading;
      term = kept.term;
      grants = kept.grants;
      rows = p.numbers.high;
      generations = subst (λ (n : ℕ). AllByRecursion (λ row. row.generation ≤ n) s.rows.items) (newest_is s.kept.committed s.kept.pending) p.generations.high;
    }
