-- Division, rounded up.
use Rattle.std.specs.Prelude.{ℕ, ◌+◌, ◌-◌, ◌/◌}

-- a number divided by another, rounded up
unfoldable pub div_up : ℕ → ℕ → ℕ
div_up number by = (number + (by - 1)) / by
