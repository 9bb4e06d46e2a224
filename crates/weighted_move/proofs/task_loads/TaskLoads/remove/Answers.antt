use Rattle.std.proofs.Common.{◌≡◌, ◌∙◌, ◌<◌, ◌≤◌, ◌+◌, ℕ, List, length, ap, arith}
use Rattle.std.specs.Prelude.{if◌then◌else◌}
use Rattle.std.proofs.lemmas.Bool.Decides.{nat_tests}
use Rattle.std.proofs.lemmas.List.{length-set}
use Rattle.assignment.specs.Slices.{is_among}
use Rattle.weighted_move.specs.Loads.{load_in, added_to, share_of}
use Rattle.weighted_move.proofs.Prefixes.{at_end}
use Rattle.weighted_move.proofs.Loading.{added-none, added-owner, still_there, remove_step, remove_end}
use Rattle.weighted_move.proofs.task_loads.TaskLoads.remove.Goals as goal

pub returns-then-is_empty : goal.returns-then-is_empty
returns-then-is_empty c task =
    let none : length c.args.slice.now.owners ≡ 0 = grind (arith, nat_tests, c.is_empty.ensures, c.as_slice.ensures.value, c.if-is_empty.true) in
    omega (arith, added-none task c.args.slice.now none)

pub overflow_sub-self : goal.overflow_sub-self
overflow_sub-self c =
    let owner = c.number-number.result in
    let items = c.as_slice-owner-items.result.now in
    let same : owner ≡ c.owner-item.result = c.number-number.ensures.value in
    let share : added_to c.owner-item.result c.args.slice.now ≡ share_of c.args.slice.now = added-owner c.args.slice.now items c.loop-owner.owner-index c.owner-item.result c.as_slice-owner-items.ensures.value c.loop-owner-test.true c.owner-item.is in
    let has = c.requires c.owner-item.result in
    let view = ap (λ (l : List ℕ). load_in l c.owner-item.result) c.self.view_is in
    let some : c.share-share.result ≤ load_in c.self.inside.by_number c.owner-item.result = omega (arith, share, has, view, c.share-share.ensures) in
    let there = still_there c.loop-owner.self-inside.by_number items c.loop-owner.owner-index c.owner-item.result c.share-share.result _ c.loop-owner-test.true c.owner-item.is c.as_slice-owner-items.ensures.rises (c.loop-owner.invariant.loads c.owner-item.result) some in
    let here = ap (load_in c.loop-owner.self-inside.by_number) same in
    omega (arith, there, here)

pub loop-owner-preserved : goal.loop-owner-preserved
loop-owner-preserved c = record {
  all = length-set c.loop-owner.self-inside.by_number c.number-number.result _ ∙ c.loop-owner.invariant.all;
  loads = λ task.
      let loads = c.loop-owner.self-inside.by_number in
      let items = c.as_slice-owner-items.result.now in
      let fits : c.owner-item.result < length loads = omega (arith, c.loop-owner.invariant.all, c.number-number.ensures.value, c.number-number.ensures.high) in
      let share : added_to c.owner-item.result c.args.slice.now ≡ share_of c.args.slice.now = added-owner c.args.slice.now items c.loop-owner.owner-index c.owner-item.result c.as_slice-owner-items.ensures.value c.loop-owner-test.true c.owner-item.is in
      let has = c.requires c.owner-item.result in
      let view = ap (λ (l : List ℕ). load_in l c.owner-item.result) c.self.view_is in
      let some : c.share-share.result ≤ load_in c.self.inside.by_number c.owner-item.result = omega (arith, share, has, view, c.share-share.ensures) in
      let there = still_there loads items c.loop-owner.owner-index c.owner-item.result c.share-share.result _ c.loop-owner-test.true c.owner-item.is c.as_slice-owner-items.ensures.rises (c.loop-owner.invariant.loads c.owner-item.result) some in
      rw c.number-number.ensures.value
      (remove_step loads items c.loop-owner.owner-index c.owner-item.result c.share-share.result task (load_in c.self.inside.by_number task) c.loop-owner-test.true c.owner-item.is c.as_slice-owner-items.ensures.rises fits there (c.loop-owner.invariant.loads task));
}

pub returns : goal.returns
returns c task =
    let Q : List ℕ → Type 0 = λ owners. load_in c.loop-owner.self-inside.by_number task + (if is_among owners task then c.share-share.result else 0) ≡ load_in c.self.inside.by_number task in
    let all = at_end Q c.as_slice-owner-items.result.now c.loop-owner.owner-index c.loop-owner-test.false (c.loop-owner.invariant.loads task) in
    remove_end _ _ _ c.share-share.result task c.args.slice.now c.as_slice-owner-items.result.now c.as_slice-owner-items.ensures.value c.share-share.ensures (ap (λ (l : List ℕ). load_in l task) c.self.view_is) all
