use Rattle.std.proofs.Common.{rules, ◌≡◌, ℕ, ◌+◌, List, [], ◌∷◌, ◌++◌, map, sym, ◌∙◌, ap, arith}
use Rattle.std.specs.List.{range_with_len}
use Rattle.std.proofs.lemmas.List.FromFn.{map-range_with_len_more}
use Rattle.load_ledger.specs.Books.{task_total}
use Rattle.world.proofs.loads.add_totals.Goals as goal

pub loop-place-preserved : goal.loop-place-preserved
loop-place-preserved c =
    let total : c.total.result ≡ task_total c.args.book.now (c.loop-place.place + 1) = search rules in
    let next : 1 + c.loop-place.place ≡ c.loop-place.place + 1 = omega arith in
    record {
      totals =
          c.push_reserved.ensures.items ∙ ap (λ (xs : List ℕ). xs ++ c.total.result ∷ []) c.loop-place.invariant.totals
          ∙ ap (λ (n : ℕ). map (task_total c.args.book.now) (range_with_len 1 c.loop-place.place) ++ n ∷ []) total
          ∙ sym (map-range_with_len_more (task_total c.args.book.now) 1 c.loop-place.place (c.loop-place.place + 1) next);
      room = let room = c.loop-place.invariant.room in let len = c.push_reserved.ensures.len in let capacity = c.push_reserved.ensures.capacity in let inside = c.loop-place-test.true in omega (arith, room, len, capacity, inside);
    }
