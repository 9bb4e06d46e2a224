-- Clocks that are rounded down to ticks keep the drift with a grain.
use Rattle.std.proofs.Common.{◌≡◌, ℕ, ◌+◌, ◌-◌, ◌*◌, ◌/◌, ◌<◌, ◌≤◌, arith, ap, ◌∙◌}
use Rattle.std.proofs.Math.Nat.{lt-div-mul-add, div-mul-le_self, lt_of_mul-lt-mul_right, mul-le-mul_right, mul-le-mul_left}
use Rattle.std.proofs.lemmas.Nat.{le-div}
use Rattle.clocks.specs.declared.drift.Drift.{Drift}
use Rattle.clocks.specs.Rounding.{div_up}
use Rattle.clocks.specs.Drifts.{most_gain}
use Rattle.clocks.specs.Pasts.{Moment, GainsWithin}
use Rattle.clocks.specs.Ticks.{GainsExactly, in_ticks, CoversTicks, IsOutOfStep}
use Rattle.clocks.proofs.DivUp as rounded

-- ticks do not fall
ticks_rise : (units early late : ℕ) → 0 < units → early ≤ late → early / units ≤ late / units
ticks_rise units early late some order =
    let low = div-mul-le_self early units in
    le-div (early / units) late units some (omega (arith, low, order))

spread : (one two rate : ℕ) → (one + two) * rate ≡ one * rate + two * rate
spread one two rate = omega arith

-- the ticks gained, times the units
times : (units low high gain : ℕ) → high ≡ low + gain → high * units ≡ low * units + gain * units
times units low high gain same = ap (λ n. n * units) same ∙ spread low gain units

-- a clock in ticks gains less than a tick more, and more than a tick less, than the clock does
gains_less : (units early late gain : ℕ) → 0 < units → late / units ≡ early / units + gain → gain * units + early < late + units
gains_less units early late gain some same =
    let high = div-mul-le_self late units in
    let low : early < early / units * units + units = lt-div-mul-add some in
    omega (arith, high, low, times units (early / units) (late / units) gain same)

gains_more : (units early late gain : ℕ) → 0 < units → late / units ≡ early / units + gain → late < early + gain * units + units
gains_more units early late gain some same =
    let high : late < late / units * units + units = lt-div-mul-add some in
    let low = div-mul-le_self early units in
    omega (arith, high, low, times units (early / units) (late / units) gain same)

-- what the ticks of the table gain, from what those of the task do: all in units, and times the
-- ratio's `per`
module _ (units per extra table local exact_table exact_local beyond grain : ℕ) where
  scaled : table * units < exact_table + units → exact_local < local * units + units → exact_table * per ≤ exact_local * (per + extra)
      → local * extra ≤ beyond * per → extra ≤ grain * per → 0 < per → 0 < units → table * units * per < (local + beyond + grain + 2) * units * per
  scaled high low exact over once positive some =
      let up : (table * units + 1) * per ≤ (exact_table + units) * per = mul-le-mul_right per (omega (arith, high)) in
      let down : (exact_local + 1) * (per + extra) ≤ (local * units + units) * (per + extra) = mul-le-mul_right (per + extra) (omega (arith, low)) in
      let more : local * extra * units ≤ beyond * per * units = mul-le-mul_right units over in
      let first : extra * units ≤ grain * per * units = mul-le-mul_right units once in
      omega (arith, up, down, exact, more, first, positive)

pub ticked : (drift : Drift) (units : ℕ) (late early : Moment) → 0 < units → CoversTicks drift → GainsExactly drift late early
    → GainsWithin drift (in_ticks units late) (in_ticks units early)
unfolding most_gain
ticked drift units late early some covers exact =
    let table = late.table / units - early.table / units in
    let local = late.local / units - early.local / units in
    let table_rises = ticks_rise units early.table late.table some exact.rises in
    let local_rises = ticks_rise units early.local late.local some exact.local in
    let table_is : late.table / units ≡ early.table / units + table = omega (arith, table_rises) in
    let local_is : late.local / units ≡ early.local / units + local = omega (arith, local_rises) in
    let high = gains_less units early.table late.table table some table_is in
    let low = gains_more units early.local late.local local some local_is in
    let over = rounded.reaches (local * drift.extra) drift.per drift.positive in
    let once = rounded.reaches drift.extra drift.per drift.positive in
    let less = scaled units drift.per drift.extra table local (late.table - early.table) (late.local - early.local)
    (div_up (local * drift.extra) drift.per) (div_up drift.extra drift.per) (omega (arith, high, exact.rises)) (omega (arith, low, exact.local)) exact.gains over once drift.positive some in
    let under : table * units < (local + div_up (local * drift.extra) drift.per + div_up drift.extra drift.per + 2) * units = lt_of_mul-lt-mul_right drift.per less in
    let fewer : table < local + div_up (local * drift.extra) drift.per + div_up drift.extra drift.per + 2 = lt_of_mul-lt-mul_right units under in
    record { rises = table_rises; gains = omega (arith, fewer, covers, table_is) }

-- A GRAIN OF 1 IS NOT ENOUGH

-- a local clock gains a tick less a unit, in which it shows no gain, and the table's shows two
abbrev late_of : ℕ → Moment
late_of per = record { table = 4 * per + 2; local = 2 * per }

abbrev early_of : ℕ → Moment
early_of per = record { table = 2 * per; local = 0 }

more_than_exact : (per extra : ℕ) → 0 < extra → (2 * per + 2) * per ≤ 2 * per * (per + extra)
more_than_exact per extra some =
    let once : per * 1 ≤ per * extra = mul-le-mul_left per (omega (arith, some)) in
    omega (arith, once)

exact_gain : (per extra table local : ℕ) → 0 < extra → table ≡ 2 * per + 2 → local ≡ 2 * per → table * per ≤ local * (per + extra)
exact_gain per extra table local some table_is local_is =
    let left : table * per ≡ (2 * per + 2) * per = ap (λ n. n * per) table_is in
    let right : local * (per + extra) ≡ 2 * per * (per + extra) = ap (λ n. n * (per + extra)) local_is in
    omega (arith, left, right, more_than_exact per extra some)

exact_of : (drift : Drift) → 0 < drift.extra → GainsExactly drift (late_of drift.per) (early_of drift.per)
exact_of drift some = record {
  local = omega arith;
  rises = omega arith;
  gains = exact_gain drift.per drift.extra ((4 * drift.per + 2) - 2 * drift.per) (2 * drift.per - 0) some (omega arith) (omega arith);
}

none_yet : (per : ℕ) → 2 * per / (2 * per + 1) ≤ 0
none_yet per =
    let whole = div-mul-le_self (2 * per) (2 * per + 1) in
    let less : 2 * per / (2 * per + 1) * (2 * per + 1) < 1 * (2 * per + 1) = omega (arith, whole) in
    let under : 2 * per / (2 * per + 1) < 1 = lt_of_mul-lt-mul_right (2 * per + 1) less in
    omega (arith, under)

two_more : (per : ℕ) → 2 ≤ (4 * per + 2) / (2 * per + 1)
two_more per = le-div 2 (4 * per + 2) (2 * per + 1) (omega arith) (omega arith)

none_gained : (drift : Drift) (elapsed : ℕ) → elapsed ≤ 0 → most_gain drift elapsed ≤ 0
unfolding most_gain
none_gained drift elapsed none =
    let zero_times : elapsed * drift.extra ≤ 0 * drift.extra = mul-le-mul_right drift.extra none in
    let small = rounded.small (elapsed * drift.extra) drift.per drift.positive in
    omega (arith, none, small, zero_times)

too_much : (drift : Drift) → drift.grain ≤ 1 → GainsWithin drift (in_ticks (2 * drift.per + 1) (late_of drift.per)) (in_ticks (2 * drift.per + 1) (early_of drift.per)) → ⊥
too_much drift grain within =
    let per = drift.per in
    let none : 2 * per / (2 * per + 1) - 0 / (2 * per + 1) ≤ 0 = omega (arith, none_yet per) in
    let gain = none_gained drift (2 * per / (2 * per + 1) - 0 / (2 * per + 1)) none in
    omega (arith, within.gains, gain, grain, none_yet per, two_more per)

pub out_of_step : (drift : Drift) → 0 < drift.extra → drift.grain ≤ 1 → IsOutOfStep drift
out_of_step drift some grain = record {
  units = 2 * drift.per + 1;
  some = omega arith;
  late = late_of drift.per;
  early = early_of drift.per;
  exact = exact_of drift some;
  shown = too_much drift grain;
}
