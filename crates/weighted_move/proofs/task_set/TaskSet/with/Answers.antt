use Rattle.std.proofs.Common.{◌≡◌, ◌∙◌, ◌++◌, ◌∷◌, [], ℕ, List, true, false, length, sym, ap, subst, arith}
use Rattle.std.specs.Prelude.{IsPermutation}
use Rattle.assignment.specs.Slices.{is_among}
use Rattle.weighted_move.specs.Owning.{with_task}
use Rattle.assignment.proofs.TaskLists.{tasks_rise}
use Rattle.weighted_move.proofs.TaskLists.{sorted_with, with-same, room_for}
use Rattle.weighted_move.proofs.task_set.TaskSet.with.Goals as goal
use Rattle.weighted_move.proofs.task_set.TaskSet.with.Goals.{After-rising_with}

pub returns-then-contains : goal.returns-then-contains
returns-then-contains c =
    let among : is_among c.self.inside.tasks.items c.args.task ≡ true = ap (λ (xs : List ℕ). is_among xs c.args.task) (sym c.as_slice.ensures.value) ∙ sym c.contains.ensures.value ∙ c.if-contains.true in
    sym (with-same c.args.task c.self.inside.tasks.items c.self.invariant among) ∙ ap (with_task c.args.task) c.self.view_is

pub rising_with-requires : goal.rising_with-requires
rising_with-requires c =
    let stranger : is_among c.self.inside.tasks.items c.args.task ≡ false = ap (λ (xs : List ℕ). is_among xs c.args.task) (sym c.as_slice.ensures.value) ∙ sym c.contains.ensures.value ∙ c.if-contains.false in
    let room = room_for 1 65 c.args.task c.self.inside.tasks.items c.self.invariant (omega arith) (omega arith) stranger in
    let same = ap (λ (xs : List ℕ). length xs) c.as_slice-2.ensures.value in
    (omega arith, omega (arith, room, same))

sorted : (c : After-rising_with) → c.rising_with.result.items ≡ with_task c.args.task c.self.inside.tasks.items
sorted c =
    let P : List ℕ → Type 0 = λ xs. IsPermutation (xs ++ c.args.task ∷ []) c.rising_with.result.items in
    let stranger : is_among c.self.inside.tasks.items c.args.task ≡ false = ap (λ (xs : List ℕ). is_among xs c.args.task) (sym c.as_slice.ensures.value) ∙ sym c.contains.ensures.value ∙ c.if-contains.false in
    sorted_with c.args.task c.self.inside.tasks.items c.rising_with.result.items c.self.invariant (omega arith) (omega arith) stranger (subst P c.as_slice-2.ensures.value c.rising_with.ensures.permutation) c.rising_with.ensures.sorted

pub invariant_of-result-2 : goal.invariant_of-result-2
invariant_of-result-2 c = rw (sorted c) (tasks_rise _)

pub returns : goal.returns
returns c = sorted c ∙ ap (with_task c.args.task) c.self.view_is
