-- Rows whose generations never fall, and the first ones that have ended.
use Rattle.std.proofs.Common.{◌≡◌, ℕ, zero, suc, ◌<◌, ◌≤◌, Bool, true, false, List, [], ◌∷◌, ◌++◌, filter, length, refl, arith, slice_get, get_or}
use Rattle.std.specs.Prelude.{if◌then◌else◌, ◌&&◌, nat_lt, nat_le, Some, None, find, map}
use Rattle.std.specs.List.{AllByRecursion}
use Rattle.std.proofs.lemmas.Bool.Decides.{nat_tests}
use Rattle.machines.proofs.Every.{all_weaker, all_push}
use Rattle.grants.specs.declared.values.Row.{Row}
use Rattle.grants.specs.declared.values.ReleaseNote.{ReleaseNote}
use Rattle.grants.specs.Rows.{runs_at, closes, first_up_to}
use Rattle.lease_table.specs.internals.Holders.{freed_if, rows_freed}
use Rattle.lease_table.specs.internals.RowOrder.{AllRise, GenerationsRise, NumbersRise, HaveEnded, if_up_to}
use Rattle.lease_table.proofs.Running.{all_of_filter}

-- GENERATIONS

-- a row after all others goes last
pub rise_push : (Before : Row → Row → Type 0) (rows : List Row) (row : Row) → AllRise Before rows → AllByRecursion (λ other. Before other row) rows
    → AllRise Before (rows ++ row ∷ [])
rise_push Before [] row h low = (tt, tt)
rise_push Before (first ∷ rows) row h low = (all_push (λ later. Before first later) rows row h.0 low.0, rise_push Before rows row h.1 low.1)

pub rise_filter : (Before : Row → Row → Type 0) (test : Row → Bool) (rows : List Row) → AllRise Before rows → AllRise Before (filter test rows)
rise_filter Before test [] h = tt
rise_filter Before test (row ∷ rows) h = by_test (test row) (rise_filter Before test rows h.1)
  where
    by_test : (b : Bool) → AllRise Before (filter test rows) → AllRise Before (if b then row ∷ filter test rows else filter test rows)
    by_test true rest = (all_of_filter (λ later. Before row later) test rows h.0, rest)
    by_test false rest = rest

-- a change of each row that keeps the order
pub all_map : (P Q : Row → Type 0) (f : Row → Row) (rows : List Row) → ((row : Row) → P row → Q (f row)) → AllByRecursion P rows → AllByRecursion Q (map f rows)
all_map P Q f [] keeps h = tt
all_map P Q f (row ∷ rows) keeps h = (keeps row h.0, all_map P Q f rows keeps h.1)

pub rise_map : (Before : Row → Row → Type 0) (f : Row → Row) (rows : List Row) → ((a b : Row) → Before a b → Before (f a) (f b)) → AllRise Before rows
    → AllRise Before (map f rows)
rise_map Before f [] keeps h = tt
rise_map Before f (row ∷ rows) keeps h = (all_map (λ later. Before row later) (λ later. Before (f row) later) f rows (λ later l. keeps row later l) h.0, rise_map Before f rows keeps h.1)

-- above a generation no row is up to it
none_above : (g at : ℕ) (rows : List Row) → AllByRecursion (λ row. g < row.generation) rows → first_up_to g at rows ≡ None
none_above g at [] h = refl
none_above g at (row ∷ rows) h =
    let above : nat_le row.generation g ≡ false = let l : g < row.generation = h.0 in grind (arith, nat_tests) in
    rw above (none_above g at rows h.1)

-- the first row that runs is the first of a generation up to this one that runs, or none is
pub first_decides : (g at : ℕ) (rows : List Row) → GenerationsRise rows → first_up_to g at rows ≡ if_up_to g (find (runs_at at) rows)
first_decides g at [] h = refl
first_decides g at (row ∷ rows) h = by_test (nat_le row.generation g) (runs_at at row) refl (first_decides g at rows h.1)
  where
    by_test : (low runs : Bool) → nat_le row.generation g ≡ low → first_up_to g at rows ≡ if_up_to g (find (runs_at at) rows)
        → (if low && runs then Some row else first_up_to g at rows) ≡ if_up_to g (if runs then Some row else find (runs_at at) rows)
    by_test true true e rest = rw e refl
    by_test true false e rest = rest
    by_test false false e rest = rest
    by_test false true e rest =
        rw e (none_above g at rows (all_weaker (λ later. row.generation ≤ later.generation) (λ later. g < later.generation) rows
        (λ later l. let above : nat_le row.generation g ≡ false = e in grind (arith, nat_tests)) h.0))

-- ROWS THAT HAVE ENDED

ended_of : (at : ℕ) (row : Row) → row.table_ends ≤ at → runs_at at row ≡ false
ended_of at row l = let P : nat_lt at row.table_ends ≡ false = grind (arith, nat_tests) in P

pub ended_push : (count at : ℕ) (rows more : List Row) → HaveEnded count at rows → HaveEnded count at (rows ++ more)
ended_push zero at rows more h = tt
ended_push (suc count) at [] more h = absurd h
ended_push (suc count) at (row ∷ rows) more h = (h.0, ended_push count at rows more h.1)

pub ended_later : (count at later : ℕ) (rows : List Row) → at ≤ later → HaveEnded count at rows → HaveEnded count later rows
ended_later zero at later rows l h = tt
ended_later (suc count) at later [] l h = absurd h
ended_later (suc count) at later (row ∷ rows) l h = (let e : row.table_ends ≤ at = h.0 in omega arith, ended_later count at later rows l h.1)

pub ended_within : (count at : ℕ) (rows : List Row) → HaveEnded count at rows → count ≤ length rows
ended_within zero at rows h = omega arith
ended_within (suc count) at [] h = absurd h
ended_within (suc count) at (row ∷ rows) h = let l = ended_within count at rows h.1 in omega arith

-- one more row has ended
pub ended_next : (count at : ℕ) (rows : List Row) (row : Row) → HaveEnded count at rows → count < length rows → row ≡ get_or rows count row
    → row.table_ends ≤ at → HaveEnded (suc count) at rows
ended_next count at [] row h within e l = absurd (omega arith)
ended_next zero at (first ∷ rows) row h within e l = let same : row ≡ first = e in (rw (← same) l, tt)
ended_next (suc count) at (first ∷ rows) row h within e l = (h.0, ended_next count at rows row h.1 (omega arith) e l)

-- the first row that runs stands after those that have ended
pub first_running_at : (count at : ℕ) (rows : List Row) (row : Row) → HaveEnded count at rows → count < length rows → row ≡ get_or rows count row
    → at < row.table_ends → slice_get rows count ≡ find (runs_at at) rows
first_running_at count at [] row h within e l = refl
first_running_at zero at (first ∷ rows) row h within e l =
    let same : row ≡ first = e in
    let runs : runs_at at first ≡ true = rw (← same) (let P : nat_lt at row.table_ends ≡ true = grind (arith, nat_tests) in P) in
    rw runs refl
first_running_at (suc count) at (first ∷ rows) row h within e l = rw (ended_of at first h.0) (first_running_at count at rows row h.1 (omega arith) e l)

pub none_running : (count at : ℕ) (rows : List Row) → HaveEnded count at rows → length rows ≤ count → slice_get rows count ≡ find (runs_at at) rows
none_running count at [] h l = refl
none_running zero at (first ∷ rows) h l = absurd (omega arith)
none_running (suc count) at (first ∷ rows) h l = rw (ended_of at first h.0) (none_running count at rows h.1 (omega arith))

-- FREED ROWS

pub same_number : (b : Bool) (row : Row) → (freed_if b row).number ≡ row.number
same_number true row = refl
same_number false row = refl

pub same_generation : (b : Bool) (row : Row) → (freed_if b row).generation ≡ row.generation
same_generation true row = refl
same_generation false row = refl

pub ended_freed : (note : ReleaseNote) (count at : ℕ) (rows : List Row) → HaveEnded count at rows → HaveEnded count at (rows_freed note rows)
ended_freed note zero at rows h = tt
ended_freed note (suc count) at [] h = absurd h
ended_freed note (suc count) at (row ∷ rows) h = (by_test (closes note row), ended_freed note count at rows h.1)
  where
    by_test : (b : Bool) → (freed_if b row).table_ends ≤ at
    by_test true = omega arith
    by_test false = h.0

pub numbers_freed : (note : ReleaseNote) (rows : List Row) → NumbersRise rows → NumbersRise (rows_freed note rows)
numbers_freed note rows h =
    rise_map (λ row later. row.number < later.number) (λ row. freed_if (closes note row) row) rows
    (λ a b l. rw (same_number (closes note a) a, same_number (closes note b) b) l) h

pub generations_freed : (note : ReleaseNote) (rows : List Row) → GenerationsRise rows → GenerationsRise (rows_freed note rows)
generations_freed note rows h =
    rise_map (λ row later. row.generation ≤ later.generation) (λ row. freed_if (closes note row) row) rows
    (λ a b l. rw (same_generation (closes note a) a, same_generation (closes note b) b) l) h
