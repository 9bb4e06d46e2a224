use Rattle.std.proofs.Common.{◌∙◌, ℕ, ◌+◌, ◌^◌, ◌<◌, List, length, ap, arith}
use Rattle.std.specs.Int.{div_ceil}
use Rattle.weighted_move.specs.Loads.{load_in}
use Rattle.weighted_move.specs.Moves.{greatest}
use Rattle.weighted_move.proofs.Loading.{div_ceil-le}
use Rattle.weighted_move.proofs.Gains.{greatest_under}
use Rattle.weighted_move.proofs.Giving.{loaded_with, adding, all_added, none_added}
use Rattle.weighted_move.proofs.best_move.best_addition.Goals as goal

pub returns-then-high-owners : goal.returns-then-high-owners
returns-then-high-owners c =
    let count = ap (λ (xs : List ℕ). length xs) c.as_slice-owners.ensures.value in
    none_added c.args.known (load_in c.args.loads.now) c.args.tasks.now c.args.high c.args.slice.now (omega (arith, count, c.if-high-owners.true))

pub overflow_add-exchange : goal.overflow_add-exchange
overflow_add-exchange c =
    let most = greatest_under (load_in c.args.loads.now) (2 ^ 60) c.as_slice-owners.result.now (omega arith) c.requires.small.0 in
    let part = div_ceil-le c.args.slice.now.load (length c.as_slice-owners.result.now + 1) (omega arith) in
    omega (arith, most, part, c.greatest-from.ensures, c.requires.small.1, c.saturating_sub.ensures, c.share_among-share.ensures)

pub best_exchange-requires-clause-exchange : goal.best_exchange-requires-clause-exchange
best_exchange-requires-clause-exchange c =
    let load = load_in c.args.loads.now in
    let slice = c.args.slice.now in
    let value = c.as_slice-owners.ensures.value in
    adding load c.args.tasks.now slice c.greatest-from.result (c.saturating_sub.result + c.share_among-share.result) c.share_among-share.result
    (loaded_with load slice c.as_slice-owners.result.now value c.as_slice-owners.ensures.rises c.requires.some c.requires.shared)
    c.requires.set (c.greatest-from.ensures ∙ ap (greatest load) value) (c.share_among-share.ensures ∙ ap (λ (xs : List ℕ). div_ceil slice.load (length xs + 1)) value)
    (omega (arith, c.saturating_sub.ensures, c.share.ensures)) c.requires.small.0 c.requires.small.1

pub returns : goal.returns
returns c =
    let count = ap (λ (xs : List ℕ). length xs) c.as_slice-owners.ensures.value in
    let room : length c.args.slice.now.owners < c.args.high = omega (arith, c.if-high-owners.false, count) in
    all_added c.args.known (load_in c.args.loads.now) c.args.tasks.now c.args.high c.args.slice.now c.best_exchange.result room c.best_exchange.ensures
