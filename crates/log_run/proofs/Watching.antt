-- Readings that are watched one after another.
use Rattle.std.proofs.Common.{◌≡◌, ℕ, ◌+◌, ◌-◌, ◌<◌, ◌≤◌, Bool, true, false, List, [], ◌∷◌, ◌++◌, map, length, get_or, take, refl, sym, ap, ◌∙◌, subst, inl, inr, arith}
use Rattle.std.specs.Prelude.{nat_lt, nat_le, Option, Some, None, is_some, slice_get, if◌then◌else◌}
use Rattle.std.specs.List.{AllByRecursion}
use Rattle.std.proofs.lemmas.List.{take_more, reverse-append, get_or_default}
use Rattle.std.proofs.lemmas.Option.{slice_get-get_or}
use Rattle.std.proofs.lemmas.Bool.{cases_lt}
use Rattle.std.proofs.lemmas.Bool.Decides.{nat_tests}
use Rattle.job_calls.specs.declared.timing.Reading.{Reading}
use Rattle.job_calls.specs.declared.timing.Reading.TheVariants.{TableClock, TaskClock, NoClock}
use Rattle.cluster.specs.Timing.{IsNear, IsTimely}
use Rattle.log_line.specs.declared.entry.LogEntry.{LogEntry}
use Rattle.log_run.specs.declared.late.Greatest.{Greatest}
use Rattle.log_run.specs.declared.late.Late.{Late}
use Rattle.log_line.specs.Calls.{reading_in}
use Rattle.log_run.specs.Late.{readings_of, readings_after, IsGreatestBefore, IsReadBefore, IsLate, AreWatched}
use Rattle.log_run.specs.internals.Watching.{reached, greater, greatest_after, late_by, late_after}

-- a task's clock may be read next from here on
abbrev pub IsBound : ℕ → Greatest → List Reading → Type 0
IsBound skew g before = (at : ℕ) → g.at ≤ at + skew → AllByRecursion (IsNear skew (TaskClock at)) before

-- the greatest reading is that of an entry, or the earlier one
abbrev pub Stands : ℕ → List LogEntry → ℕ → Greatest → Type 0
Stands earlier entries i g = IsReadBefore earlier entries i g.index g.at

-- what is known once so many entries were watched
pub record IsWatched (skew earlier : ℕ) (entries : List LogEntry) (i : ℕ) (greatest : Greatest) : Type 0 where
  pub timely : IsTimely skew (readings_after earlier (take i entries))
  pub bound : IsBound skew greatest (readings_after earlier (take i entries))
  pub stands : Stands earlier entries i greatest
  pub most : IsGreatestBefore earlier entries i greatest.at

-- before the first entry
pub none_watched : (skew earlier : ℕ) (entries : List LogEntry) → IsWatched skew earlier entries 0 (record { at = earlier; index = None })
none_watched skew earlier entries = record {
  timely = (tt, tt);
  bound = λ at near. (near, tt);
  stands = refl;
  most = record { before = omega arith; here = λ place e at low. absurd (omega (arith, low)) };
}

-- THE GREATEST READING

abbrev at_of : Greatest → ℕ
at_of g = g.at

max_if : (b : Bool) (g : Greatest) (s i : ℕ) → nat_le s g.at ≡ b → (s ≤ at_of (if b then g else reached s i)) × (g.at ≤ at_of (if b then g else reached s i))
max_if true g s i t = (let u : nat_le s g.at ≡ true = t in grind (arith, nat_tests), omega arith)
max_if false g s i t = (omega arith, let u : nat_le s g.at ≡ false = t in grind (arith, nat_tests))

greater_max : (g : Greatest) (s i : ℕ) → (s ≤ at_of (greater g s i)) × (g.at ≤ at_of (greater g s i))
greater_max g s i = max_if (nat_le s g.at) g s i refl

none_if : (b : Bool) (l : Late) → (if b then Some l else None) ≡ None → b ≡ false
none_if true l e = absurd (cc)
none_if false l e = refl

some_if : (b : Bool) (l late : Late) → (if b then Some l else None) ≡ Some late → (b ≡ true) × (late ≡ l)
some_if true l late e = (refl, cc)
some_if false l late e = absurd (cc)

not_late : (skew : ℕ) (g : Greatest) (a i : ℕ) → late_after skew g (TaskClock a) i ≡ None → g.at ≤ a + skew
not_late skew g a i e = let t : nat_lt a (g.at - skew) ≡ false = none_if (nat_lt a (g.at - skew)) (late_by g a i) e in grind (arith, nat_tests)

-- the greatest reading after a call is no less than before it
not_less : (g : Greatest) (r : Reading) (i : ℕ) → g.at ≤ at_of (greatest_after g r i)
not_less g (TableClock s) i = (greater_max g s i).1
not_less g (TaskClock a) i = omega arith
not_less g NoClock i = omega arith

-- and no less than the reading of the call
not_less_read : (g : Greatest) (r : Reading) (i s : ℕ) → r ≡ TableClock s → s ≤ at_of (greatest_after g r i)
not_less_read g (TableClock t) i s is = (let f : t ≡ s = cc in let m = (greater_max g t i).0 in omega (arith, f, m))
not_less_read g (TaskClock a) i s is = absurd (cc)
not_less_read g NoClock i s is = absurd (cc)

-- ONE READING MORE

pub free_of_table : (skew s : ℕ) (rs : List Reading) → AllByRecursion (IsNear skew (TableClock s)) rs
free_of_table skew s [] = tt
free_of_table skew s (r ∷ rs) = (tt, free_of_table skew s rs)

pub free_of_clock : (skew : ℕ) (rs : List Reading) → AllByRecursion (IsNear skew NoClock) rs
free_of_clock skew [] = tt
free_of_clock skew (r ∷ rs) = (tt, free_of_clock skew rs)

reading_more : (skew i : ℕ) (r : Reading) (rs : List Reading) (g : Greatest) → IsTimely skew rs → IsBound skew g rs → late_after skew g r i ≡ None
    → IsTimely skew (r ∷ rs) × IsBound skew (greatest_after g r i) (r ∷ rs)
reading_more skew i (TableClock s) rs g timely bound none =
    let m = greater_max g s i in
    ((free_of_table skew s rs, timely), λ at le. (let a = m.0 in omega (arith, a, le), bound at (let b = m.1 in omega (arith, b, le))))
reading_more skew i (TaskClock a) rs g timely bound none = ((bound a (not_late skew g a i none), timely), λ at le. (tt, bound at le))
reading_more skew i NoClock rs g timely bound none = ((free_of_clock skew rs, timely), λ at le. (tt, bound at le))

module _ (skew earlier : ℕ) (entries : List LogEntry) (i : ℕ) (entry : LogEntry) (low : i < length entries) (here : entry ≡ get_or entries i entry) where
  found : slice_get entries i ≡ Some entry
  found = slice_get-get_or entries i entry low ∙ ap (λ (e : LogEntry). Some e) (sym here)

  one_more_read : readings_of (take (i + 1) entries) ≡ reading_in entry.line.call ∷ readings_of (take i entries)
  one_more_read =
      ap readings_of (take_more entries i entry low ∙ ap (λ (e : LogEntry). take i entries ++ e ∷ []) (sym here))
      ∙ ap (map (λ (e : LogEntry). reading_in e.line.call)) (reverse-append (take i entries) (entry ∷ []))

  pub one_more : readings_after earlier (take (i + 1) entries) ≡ reading_in entry.line.call ∷ readings_after earlier (take i entries)
  one_more = ap (λ (rs : List Reading). rs ++ TableClock earlier ∷ []) one_more_read

  later : (place : Option ℕ) (at : ℕ) → IsReadBefore earlier entries i place at → IsReadBefore earlier entries (i + 1) place at
  later None at s = s
  later (Some place) at s = record { table = s.table; there = s.there; read = s.read; earlier = let b = s.earlier in omega (arith, b) }

  stands_if : (b : Bool) (g : Greatest) (s : ℕ) → reading_in entry.line.call ≡ TableClock s → Stands earlier entries i g
      → Stands earlier entries (i + 1) (if b then g else reached s i)
  stands_if true g s is stands = later g.index g.at stands
  stands_if false g s is stands = record { table = entry; there = found; read = is; earlier = omega arith }

  stands_more : (r : Reading) (g : Greatest) → reading_in entry.line.call ≡ r → Stands earlier entries i g → Stands earlier entries (i + 1) (greatest_after g r i)
  stands_more (TableClock s) g is stands = stands_if (nat_le s g.at) g s is stands
  stands_more (TaskClock a) g is stands = later g.index g.at stands
  stands_more NoClock g is stands = later g.index g.at stands

  most_here : (g : Greatest) → IsGreatestBefore earlier entries i g.at → (place : ℕ) (e : LogEntry) (at : ℕ) → place < i + 1 → slice_get entries place ≡ Some e
      → reading_in e.line.call ≡ TableClock at → at ≤ at_of (greatest_after g (reading_in entry.line.call) i)
  most_here g most place e at before is read = elim (cases_lt place i) [
    | inl lower ↦ (let m = most.here place e at lower is read in let n = not_less g (reading_in entry.line.call) i in omega (arith, m, n))
    | inr higher ↦ (let last : place ≡ i = omega (arith, before, higher) in
        let same : e ≡ entry = (let f : slice_get entries i ≡ Some e = subst (λ (n : ℕ). slice_get entries n ≡ Some e) last is in let h = found in cc) in
        not_less_read g (reading_in entry.line.call) i at (ap (λ (x : LogEntry). reading_in x.line.call) (sym same) ∙ read))
  ]

  most_more : (g : Greatest) → IsGreatestBefore earlier entries i g.at → IsGreatestBefore earlier entries (i + 1) (at_of (greatest_after g (reading_in entry.line.call) i))
  most_more g most = record {
    before = let m = most.before in let n = not_less g (reading_in entry.line.call) i in omega (arith, m, n);
    here = most_here g most;
  }

  -- a reading that is timely
  pub watched_more : (greatest : Greatest) → IsWatched skew earlier entries i greatest → late_after skew greatest (reading_in entry.line.call) i ≡ None
      → IsWatched skew earlier entries (i + 1) (greatest_after greatest (reading_in entry.line.call) i)
  watched_more greatest known none =
      let both = reading_more skew i (reading_in entry.line.call) (readings_after earlier (take i entries)) greatest known.timely known.bound none in
      record {
        timely = subst (IsTimely skew) (sym one_more) both.0;
        bound = subst (IsBound skew (greatest_after greatest (reading_in entry.line.call) i)) (sym one_more) both.1;
        stands = stands_more (reading_in entry.line.call) greatest refl known.stands;
        most = most_more greatest known.most;
      }

  late_with : (g : Greatest) (a : ℕ) → reading_in entry.line.call ≡ TaskClock a → IsWatched skew earlier entries i g → nat_lt a (g.at - skew) ≡ true
      → IsLate skew earlier entries (late_by g a i)
  late_with g a is known test = record {
    task = entry;
    here = found;
    read = is;
    read_before = known.stands;
    ahead = let t : nat_lt a (g.at - skew) ≡ true = test in grind (arith, nat_tests);
    greatest = known.most;
    first = known.timely;
  }

  late_from : (r : Reading) (g : Greatest) (late : Late) → reading_in entry.line.call ≡ r → IsWatched skew earlier entries i g
      → late_after skew g r i ≡ Some late → IsLate skew earlier entries late
  late_from (TaskClock a) g late is known e =
      let p = some_if (nat_lt a (g.at - skew)) (late_by g a i) late e in
      subst (IsLate skew earlier entries) (sym p.1) (late_with g a is known p.0)
  late_from (TableClock s) g late is known e = absurd (cc)
  late_from NoClock g late is known e = absurd (cc)

  -- a reading that is not
  pub late_here : (greatest : Greatest) (late : Late) → IsWatched skew earlier entries i greatest → late_after skew greatest (reading_in entry.line.call) i ≡ Some late
      → IsLate skew earlier entries late
  late_here greatest late known e = late_from (reading_in entry.line.call) greatest late refl known e

none_of : (o : Option Late) → is_some o ≡ false → o ≡ None
none_of None e = refl
none_of (Some late) e = absurd (cc)

-- the next entry, whatever stands where there is none
module _ (skew earlier : ℕ) (entries : List LogEntry) (i : ℕ) (d : LogEntry) (low : i < length entries) (r : Reading) (is : r ≡ reading_in (get_or entries i d).line.call) where
  here : get_or entries i d ≡ get_or entries i (get_or entries i d)
  here = get_or_default entries i d (get_or entries i d) low

  pub watch_next : (greatest next : Greatest) (late : Option Late) → IsWatched skew earlier entries i greatest → late ≡ late_after skew greatest r i → is_some late ≡ false
      → next ≡ greatest_after greatest r i → IsWatched skew earlier entries (i + 1) next
  watch_next greatest next late known e none is_next =
      let timely = ap (λ (q : Reading). late_after skew greatest q i) (sym is) ∙ sym e ∙ none_of late none in
      rw (is_next, is) (watched_more skew earlier entries i (get_or entries i d) low here greatest known timely)

  pub watch_ends : (greatest : Greatest) (late : Option Late) → IsWatched skew earlier entries i greatest → late ≡ late_after skew greatest r i → is_some late ≡ true
      → AreWatched skew earlier entries late
  watch_ends greatest None known e some = absurd (cc)
  watch_ends greatest (Some late) known e some =
      late_here skew earlier entries i (get_or entries i d) low here greatest late known (ap (λ (q : Reading). late_after skew greatest q i) (sym is) ∙ sym e)
