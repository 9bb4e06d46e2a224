-- Rows that a note frees, among the stored ones.
use Rattle.std.proofs.Common.{◌≡◌, ◌∙◌, ℕ, ◌<◌, ◌==◌, Bool, true, false, List, [], ◌∷◌, ◌++◌, filter, refl, sym, ap, subst, arith, eqb}
use Rattle.std.specs.Prelude.{if◌then◌else◌, ◌&&◌, ◌||◌, nat_lt, nat_le, map, Option, Some, None}
use Rattle.std.specs.List.{AllByRecursion, IsDistinct, take_while}
use Rattle.std.specs.Map.{lookup, set_value, keys_of, values_of}
use Rattle.std.specs.Option.{unwrap_or}
use Rattle.std.proofs.lemmas.Bool.{eqb-true, eq-eqb, ne_eqb, lt-ltb, le-ltb, lt-leb, ltb-false, leb-false}
use Rattle.std.proofs.lemmas.Map.Keys.{IsDistinct-head, IsDistinct-tail}
use Rattle.std.proofs.lemmas.List.Sums.{take_while-cons}
use Rattle.machines.proofs.Every.{all_weaker}
use Rattle.lease_table.specs.declared.holders.Holder.{Holder}
use Rattle.grants.specs.declared.values.ReleaseNote.{ReleaseNote}
use Rattle.grants.specs.declared.values.Row.{Row}
use Rattle.grants.specs.Rows.{runs_at, running_rows, closes, rows_left_open}
use Rattle.lease_table.specs.internals.Holders.{holder_of, holder_in, same_holder, holds, freed_if, rows_freed, unfreed, is_numbered, entry_freed, entries_freed}
use Rattle.lease_table.specs.internals.RowKeys.{IsKeyed}
use Rattle.lease_table.specs.internals.RowOrder.{NumbersRise}
use Rattle.lease_table.proofs.HeldRows.{same_true, closes_held, filter_same_tests, filter_both, filter_push, left_of_holder, left_of_others}
use Rattle.lease_table.proofs.Running.{filter-filter, running-running, running-push, all_of_filter}

-- ROWS THAT ARE LEFT

-- a freed row runs at no reading
pub running_freed : (at : ℕ) (note : ReleaseNote) (rows : List Row) → running_rows at (rows_freed note rows) ≡ rows_left_open note (running_rows at rows)
running_freed at note [] = refl
running_freed at note (row ∷ rows) = by_test (closes note row) (runs_at at row) refl refl (running_freed at note rows)
  where
    gone : nat_lt at 0 ≡ false
    gone = le-ltb at 0 (omega arith)

    by_test : (c r : Bool) → closes note row ≡ c → runs_at at row ≡ r → running_rows at (rows_freed note rows) ≡ rows_left_open note (running_rows at rows)
        → (if runs_at at (freed_if c row) then freed_if c row ∷ running_rows at (rows_freed note rows) else running_rows at (rows_freed note rows))
        ≡ rows_left_open note (if r then row ∷ running_rows at rows else running_rows at rows)
    by_test true true p q rest = rw (gone, p) rest
    by_test true false p q rest = rw gone rest
    by_test false true p q rest = rw (q, p) (ap (λ (rs : List Row). row ∷ rs) rest)
    by_test false false p q rest = rw q rest

-- THE ROWS THAT A NOTE CLOSES, IN ITS HOLDER'S LIST

pub closed_of : (note : ReleaseNote) (rows : List Row) → filter (λ row. nat_le row.number note.number) (filter (holds (holder_in note)) rows) ≡ filter (closes note) rows
closed_of note rows =
    filter_both (λ row. nat_le row.number note.number) (holds (holder_in note)) rows
    ∙ filter_same_tests (λ row. holds (holder_in note) row && nat_le row.number note.number) (closes note) rows (λ row. sym (closes_held note row))

pub closed_running : (note : ReleaseNote) (at : ℕ) (rows : List Row) → filter (runs_at at) (filter (closes note) (unfreed rows)) ≡ filter (closes note) (running_rows at rows)
closed_running note at rows = filter-filter (runs_at at) (closes note) (unfreed rows) ∙ ap (λ (rs : List Row). filter (closes note) rs) (running-running at 0 (omega arith) rows)

-- where numbers rise, the rows up to a number come first
none_up_to : (number : ℕ) (rows : List Row) → AllByRecursion (λ row. number < row.number) rows → filter (λ row. nat_le row.number number) rows ≡ []
none_up_to number [] h = refl
none_up_to number (row ∷ rows) h = rw (lt-leb row.number number h.0) (none_up_to number rows h.1)

pub first_up_to_number : (number : ℕ) (rows : List Row) → NumbersRise rows → take_while (λ row. nat_le row.number number) rows ≡ filter (λ row. nat_le row.number number) rows
first_up_to_number number [] h = refl
first_up_to_number number (row ∷ rows) h = take_while-cons (λ row. nat_le row.number number) row rows ∙ by_test (nat_le row.number number) refl (first_up_to_number number rows h.1)
  where
    by_test : (b : Bool) → nat_le row.number number ≡ b
        → take_while (λ row. nat_le row.number number) rows ≡ filter (λ row. nat_le row.number number) rows
        → (if b then row ∷ take_while (λ row. nat_le row.number number) rows else []) ≡ (if b then row ∷ filter (λ row. nat_le row.number number) rows else filter (λ row. nat_le row.number number) rows)
    by_test true p rest = ap (λ (rs : List Row). row ∷ rs) rest
    by_test false p rest = sym (none_up_to number rows (all_weaker (λ later. row.number < later.number) (λ later. number < later.number) rows (λ later l. omega (arith, l, leb-false row.number number p)) h.0))

-- FREED BY NUMBERS

not_numbered : (number : ℕ) (rows : List Row) → AllByRecursion (λ row. number < row.number) rows → is_numbered rows number ≡ false
not_numbered number [] h = refl
not_numbered number (row ∷ rows) h = rw (ne_eqb row.number number (λ e. omega (arith, e, h.0))) (not_numbered number rows h.1)

-- where numbers rise, a row has the number of one that passes a test exactly if it passes
pub numbered : (test : Row → Bool) (rows : List Row) → NumbersRise rows → AllByRecursion (λ row. is_numbered (filter test rows) row.number ≡ test row) rows
numbered test [] h = tt
numbered test (first ∷ rows) h = (here (test first), later (test first) rows h.0 (numbered test rows h.1))
  where
    here : (b : Bool) → is_numbered (if b then first ∷ filter test rows else filter test rows) first.number ≡ b
    here true = rw (eq-eqb first.number first.number refl) refl
    here false = not_numbered first.number (filter test rows) (all_of_filter (λ row. first.number < row.number) test rows h.0)

    later : (b : Bool) (others : List Row) → AllByRecursion (λ row. first.number < row.number) others → AllByRecursion (λ row. is_numbered (filter test rows) row.number ≡ test row) others
        → AllByRecursion (λ row. is_numbered (if b then first ∷ filter test rows else filter test rows) row.number ≡ test row) others
    later b [] above e = tt
    later true (row ∷ others) above e = (rw (ne_eqb first.number row.number (λ s. omega (arith, s, above.0))) e.0, later true others above.1 e.1)
    later false (row ∷ others) above e = (e.0, later false others above.1 e.1)

-- a row that a note closes and that was freed before stays as it is
freed_again : (note : ReleaseNote) (row : Row) → freed_if (runs_at 0 row && closes note row) row ≡ freed_if (closes note row) row
freed_again note row = by_test (runs_at 0 row) (closes note row) refl
  where
    by_test : (r c : Bool) → runs_at 0 row ≡ r → freed_if (r && c) row ≡ freed_if c row
    by_test true c p = refl
    by_test false false p = refl
    by_test false true p = let ends : row.table_ends ≡ 0 = let l = ltb-false 0 row.table_ends p in omega (arith, l) in λ i. record row { table_ends = ends i }

pub keyed_one : (number : ℕ) (entries : List (ℕ × Row)) → IsKeyed entries → IsKeyed (entry_freed number entries)
keyed_one number [] h = tt
keyed_one number (e ∷ entries) h = (h.0 ∙ by_test (number == e.0), keyed_one number entries h.1)
  where
    by_test : (b : Bool) → e.1.number ≡ (freed_if b e.1).number
    by_test true = refl
    by_test false = refl

pub keyed_freed : (rows : List Row) (entries : List (ℕ × Row)) → IsKeyed entries → IsKeyed (entries_freed rows entries)
keyed_freed [] entries h = h
keyed_freed (row ∷ rows) entries h = keyed_freed rows (entry_freed row.number entries) (keyed_one row.number entries h)

freed_twice : (a b : Bool) (row : Row) → freed_if b (freed_if a row) ≡ freed_if (a || b) row
freed_twice true true row = refl
freed_twice true false row = refl
freed_twice false b row = refl

-- freed one after another, or all at once
at_once : (rows : List Row) (entries : List (ℕ × Row)) → values_of (entries_freed rows entries) ≡ values_of (map (λ e. (e.0, freed_if (is_numbered rows e.0) e.1)) entries)
at_once [] entries = same entries
  where
    same : (entries : List (ℕ × Row)) → values_of entries ≡ values_of (map (λ e. (e.0, freed_if false e.1)) entries)
    same [] = refl
    same (e ∷ entries) = ap (λ (rs : List Row). e.1 ∷ rs) (same entries)
at_once (row ∷ rows) entries = at_once rows (entry_freed row.number entries) ∙ twice entries
  where
    twice : (entries : List (ℕ × Row)) → values_of (map (λ e. (e.0, freed_if (is_numbered rows e.0) e.1)) (entry_freed row.number entries))
        ≡ values_of (map (λ e. (e.0, freed_if (is_numbered (row ∷ rows) e.0) e.1)) entries)
    twice [] = refl
    twice (e ∷ entries) = λ i. freed_twice (row.number == e.0) (is_numbered rows e.0) e.1 i ∷ twice entries i

-- freed by the numbers of the rows that a note closes
pub freed_values : (note : ReleaseNote) (entries : List (ℕ × Row)) → IsKeyed entries → NumbersRise (values_of entries)
    → values_of (entries_freed (filter (closes note) (unfreed (values_of entries))) entries) ≡ rows_freed note (values_of entries)
freed_values note entries keyed rising =
    ap (λ (rs : List Row). values_of (entries_freed rs entries)) (filter_both (closes note) (runs_at 0) (values_of entries))
    ∙ at_once (filter test (values_of entries)) entries
    ∙ each entries keyed (numbered test (values_of entries) rising)
  where
    test : Row → Bool
    test = λ row. runs_at 0 row && closes note row

    each : (others : List (ℕ × Row)) → IsKeyed others → AllByRecursion (λ row. is_numbered (filter test (values_of entries)) row.number ≡ test row) (values_of others)
        → values_of (map (λ e. (e.0, freed_if (is_numbered (filter test (values_of entries)) e.0) e.1)) others) ≡ rows_freed note (values_of others)
    each [] keyed e = refl
    each (o ∷ others) keyed e =
        let same : is_numbered (filter test (values_of entries)) o.0 ≡ test o.1 = ap (λ (n : ℕ). is_numbered (filter test (values_of entries)) n) keyed.0 ∙ e.0 in
        let first : freed_if (is_numbered (filter test (values_of entries)) o.0) o.1 ≡ freed_if (closes note o.1) o.1 = ap (λ (b : Bool). freed_if b o.1) same ∙ freed_again note o.1 in
        λ i. first i ∷ each others keyed.1 e.1 i

-- A STORED ROW IS FREED

-- no key is this one
not_there : (number : ℕ) (entries : List (ℕ × Row)) → AllByRecursion (λ key. eqb number key ≡ false) (keys_of entries) → entry_freed number entries ≡ entries
not_there number [] h = refl
not_there number (e ∷ entries) h = λ i. (e.0, freed_if (h.0 i) e.1) ∷ not_there number entries h.1 i

pub entry_absent : (number : ℕ) (entries : List (ℕ × Row)) → lookup (eqb number) entries ≡ None → entry_freed number entries ≡ entries
entry_absent number [] h = refl
entry_absent number (e ∷ entries) h = by_test (eqb number e.0) refl (λ none. entry_absent number entries none)
  where
    by_test : (b : Bool) → eqb number e.0 ≡ b → (lookup (eqb number) entries ≡ None → entry_freed number entries ≡ entries) → (e.0, freed_if b e.1) ∷ entry_freed number entries ≡ e ∷ entries
    by_test true p rest = absurd (let s : Some e.1 ≡ None = subst (λ (b : Bool). (if b then Some e.1 else lookup (eqb number) entries) ≡ None) p h in cc)
    by_test false p rest = ap (λ (es : List (ℕ × Row)). e ∷ es) (rest (subst (λ (b : Bool). (if b then Some e.1 else lookup (eqb number) entries) ≡ None) p h))

pub entry_set : (number : ℕ) (row : Row) (entries : List (ℕ × Row)) → IsDistinct eqb (keys_of entries) → lookup (eqb number) entries ≡ Some row
    → set_value (eqb number) entries (freed_if true row) ≡ entry_freed number entries
entry_set number row [] unique h = refl
entry_set number row (e ∷ entries) unique h = by_test (eqb number e.0) refl (λ found. entry_set number row entries (IsDistinct-tail {K = ℕ} eqb e.0 (keys_of entries) unique) found)
  where
    by_test : (b : Bool) → eqb number e.0 ≡ b
        → (lookup (eqb number) entries ≡ Some row → set_value (eqb number) entries (freed_if true row) ≡ entry_freed number entries)
        → (if b then (e.0, freed_if true row) ∷ entries else e ∷ set_value (eqb number) entries (freed_if true row)) ≡ (e.0, freed_if b e.1) ∷ entry_freed number entries
    by_test true p rest =
        let found : Some e.1 ≡ Some row = subst (λ (b : Bool). (if b then Some e.1 else lookup (eqb number) entries) ≡ Some row) p h in
        let same : e.1 ≡ row = ap (λ (o : Option Row). unwrap_or o row) found in
        let apart : AllByRecursion (λ key. eqb number key ≡ false) (keys_of entries) = subst (λ (n : ℕ). AllByRecursion (λ key. eqb n key ≡ false) (keys_of entries)) (sym (eqb-true number e.0 p)) (IsDistinct-head {K = ℕ} eqb e.0 (keys_of entries) unique) in
        let back : (e.0, freed_if true e.1) ∷ entry_freed number entries ≡ (e.0, freed_if true row) ∷ entries = λ i. (e.0, freed_if true (same i)) ∷ not_there number entries apart i in
        sym back
    by_test false p rest = ap (λ (es : List (ℕ × Row)). e ∷ es) (rest (subst (λ (b : Bool). (if b then Some e.1 else lookup (eqb number) entries) ≡ Some row) p h))

-- THE LISTS AFTER A CHANGE

-- rows that have ended are swept
pub listed_running : (at : ℕ) (holder : Holder) (rows : List Row) → running_rows at (filter (holds holder) (unfreed rows)) ≡ filter (holds holder) (unfreed (running_rows at rows))
listed_running at holder rows =
    filter-filter (runs_at at) (holds holder) (unfreed rows)
    ∙ ap (λ (rs : List Row). filter (holds holder) rs) (filter-filter (runs_at at) (runs_at 0) rows)

-- the rows that a note closes are freed
pub listed_freed : (note : ReleaseNote) (holder : Holder) (held rows : List Row) → held ≡ filter (holds holder) (unfreed rows)
    → (if same_holder (holder_in note) holder then filter (λ row. nat_lt note.number row.number) held else held) ≡ filter (holds holder) (unfreed (rows_freed note rows))
listed_freed note holder held rows e = by_test (same_holder (holder_in note) holder) refl ∙ ap (λ (rs : List Row). filter (holds holder) rs) (sym (running_freed 0 note rows))
  where
    by_test : (b : Bool) → same_holder (holder_in note) holder ≡ b
        → (if b then filter (λ row. nat_lt note.number row.number) held else held) ≡ filter (holds holder) (rows_left_open note (unfreed rows))
    by_test true p =
        ap (λ (rs : List Row). filter (λ row. nat_lt note.number row.number) rs) e
        ∙ subst (λ (h : Holder). filter (λ row. nat_lt note.number row.number) (filter (holds h) (unfreed rows)) ≡ filter (holds h) (rows_left_open note (unfreed rows)))
        (same_true (holder_in note) holder p) (sym (left_of_holder note (unfreed rows)))
    by_test false p = e ∙ sym (left_of_others note holder (unfreed rows) p)

-- one more row is stored
pub listed_push : (holder : Holder) (held rows : List Row) (row : Row) → 0 < row.table_ends → held ≡ filter (holds holder) (unfreed rows)
    → (if same_holder (holder_of row) holder then held ++ row ∷ [] else held) ≡ filter (holds holder) (unfreed (rows ++ row ∷ []))
listed_push holder held rows row runs e =
    (λ i. if holds holder row then e i ++ row ∷ [] else e i)
    ∙ sym (filter_push (holds holder) (unfreed rows) row)
    ∙ ap (λ (rs : List Row). filter (holds holder) rs) (sym (running-push 0 rows row (lt-ltb 0 row.table_ends runs)))
