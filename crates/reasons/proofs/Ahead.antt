-- One more call whose reading is near to those before it.
use Rattle.std.proofs.Common.{◌≡◌, ◌∙◌, ℕ, ◌+◌, ◌<◌, ◌≤◌, Bool, true, false, List, ◌∷◌, length, get_or, refl, sym, ap, subst, arith}
use Rattle.std.specs.Prelude.{Option, Some, None, slice_get, nat_lt, if◌then◌else◌}
use Rattle.std.proofs.lemmas.Bool.Decides.{nat_tests}
use Rattle.std.proofs.lemmas.Option.{slice_get-get_or}
use native.Mathlib.Numerals.{unary_clauses}
use Rattle.job_calls.specs.declared.timing.Reading.{Reading}
use Rattle.job_calls.specs.declared.timing.Reading.TheVariants.{TableClock, TaskClock, NoClock}
use Rattle.reasons.specs.declared.untimely.PlacedReading.{PlacedReading}
use Rattle.reasons.specs.declared.untimely.UntimelyReadings.{UntimelyReadings}
use Rattle.reasons.specs.Untimely.{Reads, AreNear, AreTimely, IsFirstAhead, IsGreatest, IsFirstUntimely, number_of}
use Rattle.reasons.specs.internals.Ahead.{ahead_at, ahead_of, greater, IsNearTo, IsUntimelyBy}

-- what is known of the calls before one
pub record IsWatched (skew : ℕ) (readings : List Reading) (call : ℕ) (greatest : PlacedReading) : Type 0 where
  pub most : IsGreatest readings call greatest
  pub timely : AreTimely skew readings call

not_ahead : (skew late : ℕ) (r : Reading) (early : ℕ) → None ≡ ahead_of skew late r → r ≡ TableClock early → early ≤ late + skew
not_ahead skew late (TaskClock at) early none is = absurd (cc)
not_ahead skew late NoClock early none is = absurd (cc)
not_ahead skew late (TableClock at) early none is = by_test (nat_lt (late + skew) at) refl none
  where
    by_test : (b : Bool) → nat_lt (late + skew) at ≡ b → None ≡ (if b then Some at else None) → early ≤ late + skew
    by_test true t none = absurd (cc)
    by_test false t none = (let same : at ≡ early = cc in let le : at ≤ late + skew = grind (arith, nat_tests) in omega (arith, same, le))

pub is_ahead : (skew late : ℕ) (r : Reading) (early : ℕ) → Some early ≡ ahead_of skew late r → (r ≡ TableClock early) × (late + skew < early)
is_ahead skew late (TaskClock at) early some = absurd (cc)
is_ahead skew late NoClock early some = absurd (cc)
is_ahead skew late (TableClock at) early some = by_test (nat_lt (late + skew) at) refl some
  where
    by_test : (b : Bool) → nat_lt (late + skew) at ≡ b → Some early ≡ (if b then Some at else None) → (TableClock at ≡ TableClock early) × (late + skew < early)
    by_test true t some =
        let same : at ≡ early = cc in
        let lt : late + skew < at = grind (arith, nat_tests) in
        (ap (λ (n : ℕ). TableClock n) same, omega (arith, same, lt))
    by_test false t some = absurd (cc)

-- what holds of the calls before one, and of that one, holds of the calls before the next
one_more : (P : ℕ → Type 0) (call : ℕ) → P call → ((c : ℕ) → c < call → P c) → (c : ℕ) → c < call + 1 → P c
one_more P call here before = λ c lt. by_test c lt (nat_lt c call) refl
  where
    by_test : (c : ℕ) → c < call + 1 → (b : Bool) → nat_lt c call ≡ b → P c
    by_test c lt true t = before c (grind (arith, nat_tests))
    by_test c lt false t = subst P (let le : call ≤ c = grind (arith, nat_tests) in omega (arith, lt, le)) here

module _ (skew : ℕ) (readings : List Reading) (call : ℕ) (r : Reading) (reads : Reads readings call r) where
  same_reading : (other : Reading) → Reads readings call other → r ≡ other
  same_reading other at = cc

  pub near_more : (late : ℕ) → None ≡ ahead_of skew late r → AreNear skew late readings call → AreNear skew late readings (call + 1)
  near_more late none before = λ c early lt at.
      one_more (λ c. (early : ℕ) → Reads readings c (TableClock early) → early ≤ late + skew) call
      (λ early at. not_ahead skew late r early none (same_reading (TableClock early) at))
      (λ c lt early at. before c early lt at) c lt early at

  pub ahead_first : (late early before : ℕ) → Some early ≡ ahead_of skew late r → call < before → AreNear skew late readings call
      → IsFirstAhead skew late readings before (record { call = number_of call; at = early })
  ahead_first late early before some lt near =
      let ahead = is_ahead skew late r early some in
      record {
        read = record {
          call = call;
          number = refl;
          within = lt;
          reads = reads ∙ ap (λ (r : Reading). Some r) ahead.0;
        };
        ahead = ahead.1;
        lowest = near;
      }

module _ (skew late : ℕ) (readings : List Reading) (call : ℕ) where
  pub none_found : None ≡ ahead_at skew late (slice_get readings call) → AreNear skew late readings call → AreNear skew late readings (call + 1)
  none_found none near = by_get (slice_get readings call) refl none
    where
      by_get : (got : Option Reading) → slice_get readings call ≡ got → None ≡ ahead_at skew late got → AreNear skew late readings (call + 1)
      by_get None is none = λ c early lt at.
          one_more (λ c. (early : ℕ) → Reads readings c (TableClock early) → early ≤ late + skew) call
          (λ early at. absurd (cc)) (λ c lt early at. near c early lt at) c lt early at
      by_get (Some r) is none = near_more skew readings call r is late none near

  pub first_found : (early before : ℕ) → Some early ≡ ahead_at skew late (slice_get readings call) → call < before → AreNear skew late readings call
      → IsFirstAhead skew late readings before (record { call = number_of call; at = early })
  first_found early before some lt near = by_get (slice_get readings call) refl some
    where
      by_get : (got : Option Reading) → slice_get readings call ≡ got → Some early ≡ ahead_at skew late got
          → IsFirstAhead skew late readings before (record { call = number_of call; at = early })
      by_get None is some = absurd (cc)
      by_get (Some r) is some = ahead_first skew readings call r is late early before some lt near

  -- the call is near to all before it, if it is near to the greatest
  pub near_to_greatest : (greatest : PlacedReading) → IsGreatest readings call greatest → greatest.at ≤ late + skew → AreNear skew late readings call
  near_to_greatest greatest is le = λ c early lt at. (let most = is.most c early lt at in omega (arith, most, le))

-- THE GREATEST READING

-- before the first call
pub none_watched : (skew earlier : ℕ) (readings : List Reading) → IsWatched skew (TableClock earlier ∷ readings) 1 (record { call = None; at = earlier })
none_watched skew earlier readings = record {
  most = record {
    read = record { call = 0; number = refl; within = omega arith; reads = refl };
    most = λ c at lt reads. at_first c at lt reads;
    first = λ c at lt reads. absurd (omega (arith, lt));
  };
  timely = λ c late lt reads. absurd (no_task c late lt reads);
}
  where
    zero : (c : ℕ) → c < 1 → c ≡ 0
    zero c lt = omega (arith, lt)

    at_first : (c at : ℕ) → c < 1 → Reads (TableClock earlier ∷ readings) c (TableClock at) → at ≤ earlier
    at_first c at lt reads =
        let here : Reads (TableClock earlier ∷ readings) 0 (TableClock at) = subst (λ n. Reads (TableClock earlier ∷ readings) n (TableClock at)) (zero c lt) reads in
        let same : at ≡ earlier = cc in
        omega (arith, same)

    no_task : (c late : ℕ) → c < 1 → Reads (TableClock earlier ∷ readings) c (TaskClock late) → ⊥
    no_task c late lt reads =
        let here : Reads (TableClock earlier ∷ readings) 0 (TaskClock late) = subst (λ n. Reads (TableClock earlier ∷ readings) n (TaskClock late)) (zero c lt) reads in
        absurd (cc)

module _ (skew : ℕ) (readings : List Reading) (call : ℕ) (r : Reading) (reads : Reads readings call r) where
  at_most : (greatest : PlacedReading) → IsGreatest readings call greatest → (bound : ℕ) → greatest.at ≤ bound → ((at : ℕ) → r ≡ TableClock at → at ≤ bound)
      → (c at : ℕ) → c < call + 1 → Reads readings c (TableClock at) → at ≤ bound
  at_most greatest is bound le here = λ c at lt is_at.
      one_more (λ c. (at : ℕ) → Reads readings c (TableClock at) → at ≤ bound) call
      (λ at is_at. here at (same_reading skew readings call r reads (TableClock at) is_at))
      (λ c lt at is_at. (let most = is.most c at lt is_at in omega (arith, most, le))) c lt at is_at

  -- it stays
  kept : (greatest : PlacedReading) → IsGreatest readings call greatest → ((at : ℕ) → r ≡ TableClock at → at ≤ greatest.at) → IsGreatest readings (call + 1) greatest
  kept greatest is here =
      let lt = is.read.within in
      record {
        read = record { call = is.read.call; number = is.read.number; within = omega (arith, lt); reads = is.read.reads };
        most = at_most greatest is greatest.at (omega arith) here;
        first = is.first;
      }

  -- the call reads more
  reached : (greatest : PlacedReading) → IsGreatest readings call greatest → (at : ℕ) → r ≡ TableClock at → greatest.at < at
      → IsGreatest readings (call + 1) (record { call = number_of call; at = at })
  reached greatest is at at_is lt = record {
    read = record { call = call; number = refl; within = omega arith; reads = reads ∙ ap (λ (r : Reading). Some r) at_is };
    most = at_most greatest is at (omega (arith, lt)) (λ other other_is. (let same : other ≡ at = cc in omega (arith, same)));
    first = λ c other below is_at. (let most = is.most c other below is_at in omega (arith, most, lt));
  }

  pub greatest_next : (greatest : PlacedReading) → IsGreatest readings call greatest → IsGreatest readings (call + 1) (greater greatest call r)
  greatest_next greatest is = by_reading r refl
    where
      by_test : (at : ℕ) → r ≡ TableClock at → (b : Bool) → nat_lt greatest.at at ≡ b
          → IsGreatest readings (call + 1) (if b then record { call = number_of call; at = at } else greatest)
      by_test at is_at true t = reached greatest is at is_at (grind (arith, nat_tests))
      by_test at is_at false t = kept greatest is (λ other other_is. (let same : other ≡ at = cc in let le : at ≤ greatest.at = grind (arith, nat_tests) in omega (arith, same, le)))

      by_reading : (s : Reading) → r ≡ s → IsGreatest readings (call + 1) (greater greatest call s)
      by_reading (TableClock at) is_at = by_test at is_at (nat_lt greatest.at at) refl
      by_reading (TaskClock at) is_at = kept greatest is (λ other other_is. absurd (cc))
      by_reading NoClock is_at = kept greatest is (λ other other_is. absurd (cc))

  timely_next : IsNearTo skew r readings call → AreTimely skew readings call → AreTimely skew readings (call + 1)
  timely_next near timely = λ c late lt is_late.
      one_more (λ c. (late : ℕ) → Reads readings c (TaskClock late) → AreNear skew late readings c) call
      (λ late is_late. subst (λ s. IsNearTo skew s readings call) (same_reading skew readings call r reads (TaskClock late) is_late) near)
      (λ c lt late is_late. timely c late lt is_late) c lt late is_late

  pub watch_next : (greatest : PlacedReading) → IsNearTo skew r readings call → IsWatched skew readings call greatest
      → IsWatched skew readings (call + 1) (greater greatest call r)
  watch_next greatest near is = record { most = greatest_next greatest is.most; timely = timely_next near is.timely }

  pub untimely_first : (greatest : PlacedReading) (u : UntimelyReadings) → IsUntimelyBy skew r readings call greatest u → IsWatched skew readings call greatest
      → IsFirstUntimely skew readings u
  untimely_first greatest u found is = by_reading r refl found
    where
      by_reading : (s : Reading) → r ≡ s → IsUntimelyBy skew s readings call greatest u → IsFirstUntimely skew readings u
      by_reading (TableClock at) is_at found = absurd found
      by_reading NoClock is_at found = absurd found
      by_reading (TaskClock late) is_at found = record {
        call = call;
        number = found.number;
        reads = reads ∙ ap (λ (r : Reading). Some r) (is_at ∙ ap (λ (n : ℕ). TaskClock n) (sym found.reading));
        first = subst (λ n. IsFirstAhead skew n readings call u.first) (sym found.reading) found.first;
        greatest = subst (λ g. IsGreatest readings call g) (sym found.most) is.most;
        timely = is.timely;
      }

-- a call reads what stands at its place among the calls
pub reads_next : (earlier : ℕ) (readings : List Reading) (place : ℕ) (d : Reading) → place < length readings
    → Reads (TableClock earlier ∷ readings) (place + 1) (get_or readings place d)
reads_next earlier readings place d lt = simp unary_clauses (slice_get-get_or readings place d lt)
