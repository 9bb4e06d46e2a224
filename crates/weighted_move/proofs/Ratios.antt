-- Ratios that stand for gains and churns.
use Rattle.std.proofs.Common.{◌≡◌, ◌∙◌, ℕ, ◌+◌, ◌-◌, ◌*◌, ◌/◌, ◌^◌, ◌<◌, ◌≤◌, false, Option, Some, None, refl, sym, ap, subst, arith}
use Rattle.std.specs.Prelude.{min}
use Rattle.std.specs.Option.{ForSome}
use Rattle.std.proofs.Math.Nat.{mul_comm, mul_left_comm, mul-le-mul_left, mul-le-mul_right, mul-lt-mul_of_pos_left, mul-lt-mul_of_pos_right, lt_of_mul-lt-mul_left, le_of_mul-le-mul_left, div-mul-le_self, lt-mul-div-succ, lt_of_lt_of_le, div-le_self, le_trans, le_of_eq, min-le_left}
use Rattle.weighted_move.specs.declared.moves.Move.{Move}
use Rattle.weighted_move.specs.Moves.{is_better, is_ahead}
use Rattle.weighted_move.specs.Ranks.{ratio_of, least_gain, best_ratio}
use Rattle.weighted_move.proofs.Order.{better_is_false}

-- with a smaller product a move is no better
pub smaller_is_no_better : (move other : Move) → move.gain * other.churn < other.gain * move.churn → is_better move other ≡ false
smaller_is_no_better move other h = better_is_false move other (record { ratio = omega (arith, h); tie = λ e. absurd (omega (arith, h, e)) })

-- a * (b * c), with its factors in another order
turned : (a b c : ℕ) → a * (b * c) ≡ c * (b * a)
turned a b c = mul_left_comm a b c ∙ ap (λ n. b * n) (mul_comm a c) ∙ mul_left_comm b c a

-- a number that n / m reaches, times m, is at most n
reached : (n m k : ℕ) → k ≤ n / m → k * m ≤ n
reached n m k l = le_trans (mul-le-mul_right m l) (div-mul-le_self n m)

-- below the whole part of ratio * churn / unit, where the ratio is no more than best_gain * unit / best_churn
below_quotient : (unit gain churn best_gain best_churn ratio : ℕ) → 0 < unit → 0 < best_churn → ratio ≤ best_gain * unit / best_churn → gain + 1 ≤ ratio * churn / unit → gain * best_churn < best_gain * churn
below_quotient unit gain churn best_gain best_churn ratio some wide l h =
    let one : (gain + 1) * unit ≤ ratio * churn = reached (ratio * churn) unit (gain + 1) h in
    let two : ratio * best_churn ≤ best_gain * unit = reached (best_gain * unit) best_churn ratio l in
    let a : unit * ((gain + 1) * best_churn) ≡ best_churn * ((gain + 1) * unit) = turned unit (gain + 1) best_churn in
    let b : best_churn * ((gain + 1) * unit) ≤ best_churn * (ratio * churn) = mul-le-mul_left best_churn one in
    let c : best_churn * (ratio * churn) ≡ churn * (ratio * best_churn) = turned best_churn ratio churn in
    let d : churn * (ratio * best_churn) ≤ churn * (best_gain * unit) = mul-le-mul_left churn two in
    let e : churn * (best_gain * unit) ≡ unit * (best_gain * churn) = turned churn best_gain unit in
    let all : unit * ((gain + 1) * best_churn) ≤ unit * (best_gain * churn) = le_trans (le_of_eq a) (le_trans b (le_trans (le_of_eq c) (le_trans d (le_of_eq e)))) in
    let next : gain < gain + 1 = omega arith in
    lt_of_lt_of_le (mul-lt-mul_of_pos_right next wide) (le_of_mul-le-mul_left all some)

-- a smaller quotient is that of a smaller gain over its churn
smaller_quotient : (unit gain churn best_gain best_churn : ℕ) → 0 < churn → 0 < best_churn → gain * unit / churn + 1 ≤ best_gain * unit / best_churn → gain * best_churn < best_gain * churn
smaller_quotient unit gain churn best_gain best_churn some wide h =
    let ratio : ℕ = gain * unit / churn in
    let one : gain * unit < churn * (ratio + 1) = lt-mul-div-succ (gain * unit) some in
    let two : (ratio + 1) * best_churn ≤ best_gain * unit = reached (best_gain * unit) best_churn (ratio + 1) h in
    let a : unit * (gain * best_churn) ≡ best_churn * (gain * unit) = turned unit gain best_churn in
    let b : best_churn * (gain * unit) < best_churn * (churn * (ratio + 1)) = mul-lt-mul_of_pos_left one wide in
    let c : best_churn * (churn * (ratio + 1)) ≡ churn * ((ratio + 1) * best_churn) = mul_left_comm best_churn churn (ratio + 1) ∙ ap (λ n. churn * n) (mul_comm best_churn (ratio + 1)) in
    let d : churn * ((ratio + 1) * best_churn) ≤ churn * (best_gain * unit) = mul-le-mul_left churn two in
    let e : churn * (best_gain * unit) ≡ unit * (best_gain * churn) = turned churn best_gain unit in
    let high : best_churn * (churn * (ratio + 1)) ≤ unit * (best_gain * churn) = le_trans (le_of_eq c) (le_trans d (le_of_eq e)) in
    let P : ℕ → Type 0 = λ n. n < unit * (best_gain * churn) in
    lt_of_mul-lt-mul_left unit (subst P (sym a) (lt_of_lt_of_le b high))

cut_below : (x y high : ℕ) → min x high < min y high → x + 1 ≤ y
cut_below x y high l = omega (arith, l)

above : (x y : ℕ) → x < y → x + 1 ≤ y
above x y l = omega (arith, l)

-- a gain below the least gain of a ratio, for a move of a churn
pub below_least : (gain churn best_gain best_churn ratio : ℕ) → 0 < best_churn → ratio ≤ ratio_of best_gain best_churn → gain < least_gain ratio churn → gain * best_churn < best_gain * churn
below_least gain churn best_gain best_churn ratio wide l h =
    below_quotient (2 ^ 64) gain churn best_gain best_churn ratio (omega arith) wide (le_trans l (min-le_left (best_gain * 2 ^ 64 / best_churn) (2 ^ 64 - 1))) (above gain (ratio * churn / 2 ^ 64) h)

-- a smaller ratio is that of a smaller gain over its churn
pub smaller_ratio : (gain churn best_gain best_churn : ℕ) → 0 < churn → 0 < best_churn → ratio_of gain churn < ratio_of best_gain best_churn → gain * best_churn < best_gain * churn
smaller_ratio gain churn best_gain best_churn some wide h =
    smaller_quotient (2 ^ 64) gain churn best_gain best_churn some wide (cut_below (gain * 2 ^ 64 / churn) (best_gain * 2 ^ 64 / best_churn) (2 ^ 64 - 1) h)

no_gain : (gain churn unit : ℕ) → gain < 0 * churn / unit → ⊥
no_gain gain churn unit h =
    let none : 0 * churn / unit ≤ 0 * churn = div-le_self (0 * churn) unit in
    omega (arith, h, none)

-- a move that gains less than the least gain of the best one's ratio is not ahead of it
pub behind_ratio : (move : Move) (best : Option Move) (ratio : ℕ) → ForSome best (λ m. 0 < m.churn) → ratio ≡ best_ratio best → move.gain < least_gain ratio move.churn → is_ahead move best ≡ false
behind_ratio move None ratio wide is h = absurd (
    let P : ℕ → Type 0 = λ r. move.gain < r * move.churn / 2 ^ 64 in
    no_gain move.gain move.churn (2 ^ 64) (subst P is h))
behind_ratio move (Some best) ratio wide is h = smaller_is_no_better move best (below_least move.gain move.churn best.gain best.churn ratio (wide best refl) (le_of_eq is) h)

-- nor is a move that gains no more than one of a smaller ratio
pub behind_smaller : (move : Move) (most : ℕ) (best : Option Move) → ForSome best (λ m. 0 < m.churn) → 0 < move.churn → move.gain ≤ most → ratio_of most move.churn < best_ratio best → is_ahead move best ≡ false
behind_smaller move most None wide some l h = absurd (none_below (ratio_of most move.churn) h)
  where
    none_below : (n : ℕ) → n < 0 → ⊥
    none_below n l = omega (arith, l)
behind_smaller move most (Some best) wide some l h =
    smaller_is_no_better move best (le_lt (mul-le-mul_right best.churn l) (smaller_ratio most move.churn best.gain best.churn some (wide best refl) h))
  where
    le_lt : {a b c : ℕ} → a ≤ b → b < c → a < c
    le_lt l h = omega (arith, l, h)
