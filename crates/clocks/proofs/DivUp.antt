-- Division, rounded up.
use Rattle.std.proofs.Common.{ℕ, ◌+◌, ◌-◌, ◌*◌, ◌/◌, ◌<◌, ◌≤◌, arith}
use Rattle.std.proofs.Math.Nat.{lt-div-mul-add, div-mul-le_self, lt_of_mul-lt-mul_right, mul-le-mul_left}
use Rattle.clocks.specs.Rounding.{div_up}

-- it is enough
pub reaches : (number by : ℕ) → 0 < by → number ≤ div_up number by * by
unfolding div_up
reaches number by some =
    let below : number + (by - 1) < (number + (by - 1)) / by * by + by = lt-div-mul-add some in
    omega (arith, below, some)

-- and by less than one too much
pub within : (number by : ℕ) → 0 < by → div_up number by * by < number + by
unfolding div_up
within number by some =
    let below = div-mul-le_self (number + (by - 1)) by in
    omega (arith, below, some)

-- it is no larger than the number
pub small : (number by : ℕ) → 0 < by → div_up number by ≤ number
small number by some =
    let below = within number by some in
    let grows : number * 1 ≤ number * by = mul-le-mul_left number (omega (arith, some)) in
    let less : div_up number by * by < (number + 1) * by = omega (arith, below, grows) in
    let under : div_up number by < number + 1 = lt_of_mul-lt-mul_right by less in
    omega (arith, under)

-- it grows with the number
pub grows : (number more by : ℕ) → 0 < by → number ≤ more → div_up number by ≤ div_up more by
grows number more by some least =
    let less : div_up number by * by < (div_up more by + 1) * by = omega (arith, within number by some, reaches more by some, least) in
    let under : div_up number by < div_up more by + 1 = lt_of_mul-lt-mul_right by less in
    omega (arith, under)

-- of a sum it is no larger than the sum of it
pub of_sum : (one two by : ℕ) → 0 < by → div_up (one + two) by ≤ div_up one by + div_up two by
of_sum one two by some =
    let less : div_up (one + two) by * by < (div_up one by + div_up two by + 1) * by =
    omega (arith, within (one + two) by some, reaches one by some, reaches two by some) in
    let under : div_up (one + two) by < div_up one by + div_up two by + 1 = lt_of_mul-lt-mul_right by less in
    omega (arith, under)

-- and smaller by at most one
pub in_sum : (one two by : ℕ) → 0 < by → div_up one by + div_up two by ≤ div_up (one + two) by + 1
in_sum one two by some =
    let less : (div_up one by + div_up two by) * by < (div_up (one + two) by + 2) * by =
    omega (arith, within one by some, within two by some, reaches (one + two) by some) in
    let under : div_up one by + div_up two by < div_up (one + two) by + 2 = lt_of_mul-lt-mul_right by less in
    omega (arith, under)
