-- What a plan is held to, beside the numbers of owners.
use Rattle.std.specs.Prelude.{ℕ, Bool, ◌&&◌, nat_le}
use Rattle.slice_ranges.specs.declared.key.TheConstants.{KEYS}
use Rattle.assignment.specs.declared.assignment.TheConstants.{MOST_SLICES}
use Rattle.machines.specs.Numbers.{is_within}

-- how many keys may move; the loads up to which neighbours merge, and above which a slice is halved;
-- and how many slices there may be for that
pub record Bounds : Type 0 where
  pub churn : ℕ
  pub cold : ℕ
  pub hot : ℕ
  pub most : ℕ

abbrev pub bounds : ℕ → ℕ → ℕ → ℕ → Bounds
bounds churn cold hot most = record { churn = churn; cold = cold; hot = hot; most = most }

-- the bounds are in their ranges
abbrev pub is_bounds : Bounds → Bool
is_bounds b = nat_le b.churn KEYS && is_within b.most MOST_SLICES
