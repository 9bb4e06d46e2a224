-- How far one clock gains on another.
use Rattle.std.proofs.Common.{◌≡◌, ℕ, ◌+◌, ◌*◌, ◌≤◌, arith, ap}
use Rattle.std.proofs.Math.Nat.{mul-le-mul_right}
use Rattle.clocks.specs.declared.drift.Drift.{Drift}
use Rattle.clocks.specs.Rounding.{div_up}
use Rattle.clocks.specs.Drifts.{most_gain}
use Rattle.clocks.proofs.DivUp as rounded

-- a sum in proportion
spread : (one two rate : ℕ) → (one + two) * rate ≡ one * rate + two * rate
spread one two rate = omega arith

-- it grows with the time
pub grows : (drift : Drift) (less more : ℕ) → less ≤ more → most_gain drift less ≤ most_gain drift more
unfolding most_gain
grows drift less more least =
    let times : less * drift.extra ≤ more * drift.extra = mul-le-mul_right drift.extra least in
    let up = rounded.grows (less * drift.extra) (more * drift.extra) drift.per drift.positive times in
    omega (arith, up, least)

-- over two times together it is at most the sum
pub of_sum : (drift : Drift) (one two : ℕ) → most_gain drift (one + two) ≤ most_gain drift one + most_gain drift two
unfolding most_gain
of_sum drift one two =
    let e : (one + two) * drift.extra ≡ one * drift.extra + two * drift.extra = spread one two drift.extra in
    let up : div_up (one * drift.extra + two * drift.extra) drift.per ≤ div_up (one * drift.extra) drift.per + div_up (two * drift.extra) drift.per =
    rounded.of_sum (one * drift.extra) (two * drift.extra) drift.per drift.positive in
    let same : div_up ((one + two) * drift.extra) drift.per ≡ div_up (one * drift.extra + two * drift.extra) drift.per =
    ap (λ n. div_up n drift.per) e in
    omega (arith, up, same)

-- and at least the sum, but for one
pub in_sum : (drift : Drift) (one two : ℕ) → most_gain drift one + most_gain drift two ≤ most_gain drift (one + two) + 1
unfolding most_gain
in_sum drift one two =
    let e : (one + two) * drift.extra ≡ one * drift.extra + two * drift.extra = spread one two drift.extra in
    let up : div_up (one * drift.extra) drift.per + div_up (two * drift.extra) drift.per ≤ div_up (one * drift.extra + two * drift.extra) drift.per + 1 =
    rounded.in_sum (one * drift.extra) (two * drift.extra) drift.per drift.positive in
    let same : div_up ((one + two) * drift.extra) drift.per ≡ div_up (one * drift.extra + two * drift.extra) drift.per =
    ap (λ n. div_up n drift.per) e in
    omega (arith, up, same)
