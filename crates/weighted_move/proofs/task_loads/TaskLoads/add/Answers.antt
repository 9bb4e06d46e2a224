use Rattle.std.proofs.Common.{◌≡◌, ◌∙◌, ◌<◌, ◌≤◌, ◌+◌, ◌^◌, ℕ, List, length, ap, arith}
use Rattle.std.specs.Prelude.{if◌then◌else◌}
use Rattle.std.proofs.lemmas.Bool.Decides.{nat_tests}
use Rattle.std.proofs.lemmas.List.{length-set}
use Rattle.assignment.specs.Slices.{is_among}
use Rattle.weighted_move.specs.Loads.{load_in}
use Rattle.weighted_move.proofs.Prefixes.{at_end}
use Rattle.weighted_move.proofs.Loading.{added-none, share-le, add_fits, add_step, add_end}
use Rattle.weighted_move.proofs.task_loads.TaskLoads.add.Goals as goal

pub returns-then-is_empty : goal.returns-then-is_empty
returns-then-is_empty c task =
    let none : length c.args.slice.now.owners ≡ 0 = grind (arith, nat_tests, c.is_empty.ensures, c.as_slice.ensures.value, c.if-is_empty.true) in
    omega (arith, added-none task c.args.slice.now none)

pub overflow_add-self : goal.overflow_add-self
overflow_add-self c =
    let owner = c.number-number.result in
    let some : 0 < length c.args.slice.now.owners = grind (arith, nat_tests, c.is_empty.ensures, c.as_slice.ensures.value, c.if-is_empty.false) in
    let share : c.share-share.result ≤ c.args.slice.now.load = omega (arith, c.share-share.ensures, share-le c.args.slice.now some) in
    let fits : load_in c.self.inside.by_number owner + c.args.slice.now.load < 2 ^ 62 = rw c.self.view_is (c.requires owner) in
    let sum : load_in c.loop-owner.self-inside.by_number owner + c.share-share.result < 2 ^ 64 = add_fits _ (load_in c.self.inside.by_number owner) c.share-share.result c.args.slice.now.load _ (c.loop-owner.invariant.loads owner) share fits in
    omega (arith, sum)

pub loop-owner-preserved : goal.loop-owner-preserved
loop-owner-preserved c = record {
  all = length-set c.loop-owner.self-inside.by_number c.number-number.result _ ∙ c.loop-owner.invariant.all;
  loads = λ task.
      let loads = c.loop-owner.self-inside.by_number in
      let fits : c.owner-item.result < length loads = omega (arith, c.loop-owner.invariant.all, c.number-number.ensures.value, c.number-number.ensures.high) in
      rw c.number-number.ensures.value
      (add_step loads c.as_slice-owner-items.result.now c.loop-owner.owner-index c.owner-item.result c.share-share.result task (load_in c.self.inside.by_number task) c.loop-owner-test.true c.owner-item.is c.as_slice-owner-items.ensures.rises fits (c.loop-owner.invariant.loads task));
}

pub returns : goal.returns
returns c task =
    let Q : List ℕ → Type 0 = λ owners. load_in c.loop-owner.self-inside.by_number task ≡ load_in c.self.inside.by_number task + (if is_among owners task then c.share-share.result else 0) in
    let all = at_end Q c.as_slice-owner-items.result.now c.loop-owner.owner-index c.loop-owner-test.false (c.loop-owner.invariant.loads task) in
    add_end _ _ _ c.share-share.result task c.args.slice.now c.as_slice-owner-items.result.now c.as_slice-owner-items.ensures.value c.share-share.ensures (ap (λ (l : List ℕ). load_in l task) c.self.view_is) all
