-- Numbers of tasks that rise.
use Rattle.std.proofs.Common.{◌≡◌, ℕ, ◌+◌, ◌≤◌, true, List, [], ◌∷◌, length, arith}
use Rattle.std.specs.Prelude.{nat_le}
use Rattle.std.specs.List.{list_all}
use Rattle.std.proofs.lemmas.Bool.{and_parts}
use Rattle.std.proofs.lemmas.Bool.Decides.{nat_tests}
use Rattle.assignment.specs.Slices.{is_task}
use Rattle.weighted_move.specs.Owning.{rise_from}
use Rattle.c_calls.specs.Plans.{are_tasks}

-- tasks that rise from a low one are few
few_from : (low : ℕ) (xs : List ℕ) → list_all is_task xs ≡ true → rise_from low xs ≡ true → low ≤ 65 → low + length xs ≤ 65
few_from low [] all rises l = omega arith
few_from low (x ∷ xs) all rises l =
    let alls = and_parts (is_task x) (list_all is_task xs) all in
    let high = and_parts (nat_le 1 x) (nat_le x 64) alls.0 in
    let rise = and_parts (nat_le low x) (rise_from (x + 1) xs) rises in
    let below : low ≤ x = grind (arith, nat_tests, rise.0) in
    let above : x ≤ 64 = grind (arith, nat_tests, high.1) in
    let rest = few_from (x + 1) xs alls.1 rise.1 (omega arith) in
    omega arith

-- no more than there may be
pub few_tasks : (xs : List ℕ) → are_tasks xs ≡ true → length xs ≤ 64
few_tasks xs e =
    let parts = and_parts (list_all is_task xs) (rise_from 1 xs) e in
    let few = few_from 1 xs parts.0 parts.1 (omega arith) in
    omega arith
