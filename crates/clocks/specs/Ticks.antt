-- Clocks that show whole ticks.
use Rattle.std.specs.Prelude.{ℕ, ◌+◌, ◌-◌, ◌*◌, ◌/◌, ◌<◌, ◌≤◌}
use Rattle.clocks.specs.declared.drift.Drift.{Drift}
use Rattle.clocks.specs.Rounding.{div_up}
use Rattle.clocks.specs.Pasts.{Moment, GainsWithin}

-- two clocks in units as small as one likes: from one moment to a later one the table's gains on
-- the local one no more than the ratio says, with no grain and nothing rounded
pub record GainsExactly (drift : Drift) (late early : Moment) : Type 0 where
  pub local : early.local ≤ late.local
  pub rises : early.table ≤ late.table
  pub gains : (late.table - early.table) * drift.per ≤ (late.local - early.local) * (drift.per + drift.extra)

-- what the clocks show, rounded down to ticks of so many units
abbrev pub in_ticks : ℕ → Moment → Moment
in_ticks units moment = record { table = moment.table / units; local = moment.local / units }

-- a grain that makes up for the rounding: 1 with no drift, 2 with a drift of at most 1
abbrev pub CoversTicks : Drift → Type 0
CoversTicks drift = 1 + div_up drift.extra drift.per ≤ drift.grain

-- clocks that keep the ratio, of which those in ticks do not keep the drift
pub record IsOutOfStep (drift : Drift) : Type 0 where
  pub units : ℕ
  pub some : 0 < units
  pub late : Moment
  pub early : Moment
  pub exact : GainsExactly drift late early
  pub shown : GainsWithin drift (in_ticks units late) (in_ticks units early) → ⊥
