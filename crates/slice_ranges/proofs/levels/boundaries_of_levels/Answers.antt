use Rattle.std.proofs.Common.{◌≡◌, ◌+◌, ◌<◌, ◌++◌, ◌∷◌, [], ◌⊎◌, true, false, length, get_or, refl, inl, inr, arith, add-one, drop-cons}
use Rattle.std.proofs.lemmas.List.{drop_all}
use Rattle.slice_ranges.specs.declared.key.TheConstants.{KEYS}
use Rattle.slice_ranges.proofs.Sweeping.{same_flag, other_flag}
use Rattle.slice_ranges.proofs.LevelWriting.{level_same, level_turn, levels_end}
use Rattle.slice_ranges.proofs.levels.boundaries_of_levels.Goals as goal
use Rattle.slice_ranges.proofs.levels.boundaries_of_levels.Goals.{Joined-inside, then-inside+in_ok-push-2, else-inside, then-level-inside+in_ok-push, else-level-inside}

pub loop-level-preserved : goal.loop-level-preserved
loop-level-preserved c =
    let l : c.loop-level.level-index < length c.args.levels.now = omega arith in
    let e = drop-cons c.args.levels.now c.loop-level.level-index (0, false) l in
    elim c.if-level-inside.branch [
      | then-level-inside+in_ok-push w ↦ ((get_or c.args.levels.now c.loop-level.level-index (0, false)).0 + 1, rw (add-one, w.boundaries-is, w.inside-is, w.in_ok-push.ensures.items) (level_turn _ _ _ _ _ _ _ c.loop-level.invariant.1 e (other_flag _ _ w.if-level-inside.true)))
      | else-level-inside w ↦ ((get_or c.args.levels.now c.loop-level.level-index (0, false)).0 + 1, rw (add-one, w.boundaries-is, w.inside-is) (level_same _ _ _ _ _ _ _ c.loop-level.invariant.1 e (same_flag _ _ w.if-level-inside.false)))
    ]

end_is : (c : Joined-inside) → ((c.loop-level.inside ≡ false) × (c.if-inside.boundaries.items ≡ c.loop-level.boundaries.items)) ⊎ ((c.loop-level.inside ≡ true) × (c.if-inside.boundaries.items ≡ c.loop-level.boundaries.items ++ KEYS ∷ []))
end_is c = elim c.if-inside.branch [
  | then-inside+in_ok-push-2 w ↦ inr (w.if-inside.true, rw (w.boundaries-is, w.in_ok-push-2.ensures.items) refl)
  | else-inside w ↦ inl (w.if-inside.false, rw w.boundaries-is refl)
]

pub returns-clause-ranges : goal.returns-clause-ranges
returns-clause-ranges c = let keys = levels_end _ _ _ _ _ _ c.loop-level.invariant.1 (drop_all _ _ c.loop-level-test.false) (end_is c) in keys.0

pub returns-clause-keys : goal.returns-clause-keys
returns-clause-keys c = let keys = levels_end _ _ _ _ _ _ c.loop-level.invariant.1 (drop_all _ _ c.loop-level-test.false) (end_is c) in keys.1
