-- How much the table's clock may gain.
use Rattle.std.specs.Prelude.{◌≡◌, ℕ, ◌+◌, ◌*◌}
use Rattle.clocks.specs.declared.drift.Drift.{Drift}
use Rattle.clocks.specs.Rounding.{div_up}

-- the most that the table's clock gains while a local clock gains `elapsed` ticks, without the
-- grain
unfoldable pub most_gain : Drift → ℕ → ℕ
most_gain drift elapsed = elapsed + div_up (elapsed * drift.extra) drift.per

-- a drift has these numbers
pub record IsDriftOf (extra per grain : ℕ) (drift : Drift) : Type 0 where
  pub is_extra : drift.extra ≡ extra
  pub is_per : drift.per ≡ per
  pub is_grain : drift.grain ≡ grain
