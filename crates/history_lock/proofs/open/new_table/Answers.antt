use Rattle.std.proofs.Common.{◌≡◌, replicate, sym, subst}
use Rattle.atomic_table.specs.Table.{opening}
use Rattle.history_lock.specs.Rule.{word_index, HasOneHistory}
use Rattle.history_lock.specs.internals.Views.{first_view}
use Rattle.history_lock.specs.internals.Seats.{IsBlank}
use Rattle.history_lock.proofs.Deals.{starts}
use Rattle.history_lock.proofs.open.new_table.Goals as goal

pub new-requires : goal.new-requires
new-requires g c = let o = c.of-key.result.value in let words = c.in_ok-words.words.items in let slots = c.in_ok-slots.slots.items in
    subst (λ ws. HasOneHistory g.M.Machine.step o (opening ws slots (first_view o))) (sym c.as_slice.ensures.value)
    (starts g.M.Machine.step o words slots (subst (λ op. words ≡ replicate (word_index op.lanes) 0) (sym c.of-key.ensures) (c.in_ok-words.ensures.items_if_clones_equal (λ y e. e))) (subst (λ op. IsBlank op.machine op.lanes slots) (sym c.of-key.ensures) c.in_ok-slots.ensures))
