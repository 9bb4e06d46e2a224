use Rattle.std.proofs.Common.{◌≡◌, ◌<◌, ◌++◌, ◌∷◌, [], ◌⊎◌, true, false, length, refl, inl, inr, arith, add-one, drop-cons}
use Rattle.std.proofs.lemmas.List.{drop_all}
use Rattle.slice_ranges.proofs.Joining.{joining_step, joining_end}
use Rattle.slice_ranges.proofs.pairs.boundaries_of_pairs.Goals as goal
use Rattle.slice_ranges.proofs.pairs.boundaries_of_pairs.Goals.{Joined-inside, then-inside+in_ok-push, else-inside}

pub loop-pair-preserved : goal.loop-pair-preserved
loop-pair-preserved c =
    let l : c.loop-pair.pair-index < length c.args.pairs.now = omega arith in
    joining_step _ _ _ _ _ _ _ _ c.loop-pair.invariant (rw (add-one, drop-cons c.args.pairs.now c.loop-pair.pair-index (0, 0)) refl) c.in_ok-turn.ensures

end_is : (c : Joined-inside) → ((c.loop-pair.inside ≡ false) × (c.if-inside.boundaries.items ≡ c.loop-pair.boundaries.items)) ⊎ ((c.loop-pair.inside ≡ true) × (c.if-inside.boundaries.items ≡ c.loop-pair.boundaries.items ++ c.loop-pair.end ∷ []))
end_is c = elim c.if-inside.branch [
  | then-inside+in_ok-push w ↦ inr (w.if-inside.true, rw (w.boundaries-is, w.in_ok-push.ensures.items) refl)
  | else-inside w ↦ inl (w.if-inside.false, rw w.boundaries-is refl)
]

pub returns-clause-ranges : goal.returns-clause-ranges
returns-clause-ranges c = let keys = joining_end c.args.pairs.now _ _ _ _ _ c.loop-pair.invariant (drop_all _ _ c.loop-pair-test.false) (end_is c) in keys.0

pub returns-clause-keys : goal.returns-clause-keys
returns-clause-keys c = let keys = joining_end c.args.pairs.now _ _ _ _ _ c.loop-pair.invariant (drop_all _ _ c.loop-pair-test.false) (end_is c) in keys.1
