-- What a job is held to.
use Rattle.std.specs.Prelude.{ℕ, Bool, ◌&&◌, nat_le, nat_lt}
use Rattle.machines.specs.Numbers.{is_within}
use Rattle.assignment.specs.declared.slice.TheConstants.{MOST_OWNERS}
use Rattle.grants.specs.declared.policy.TheConstants.{LONGEST_TERM, MOST_GRANTS}

-- the terms of a policy: how many owners a slice has at the least and at the most, ticks, and how many grants there may be
pub record Terms : Type 0 where
  pub low : ℕ
  pub high : ℕ
  pub skew : ℕ
  pub guard : ℕ
  pub bridge : ℕ
  pub job : ℕ
  pub numbers : ℕ

abbrev pub terms : ℕ → ℕ → ℕ → ℕ → ℕ → ℕ → ℕ → Terms
terms low high skew guard bridge job numbers = record { low = low; high = high; skew = skew; guard = guard; bridge = bridge; job = job; numbers = numbers }

-- the terms are within their limits
abbrev pub is_policy : Terms → Bool
is_policy t =
    is_within t.low t.high && nat_le t.high MOST_OWNERS && is_within t.guard LONGEST_TERM && is_within t.bridge LONGEST_TERM && is_within t.job LONGEST_TERM && is_within t.numbers MOST_GRANTS
    && nat_lt t.skew t.guard && nat_lt t.skew t.bridge
