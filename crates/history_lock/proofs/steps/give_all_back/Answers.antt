use Rattle.std.proofs.Common.{rules, arith, refl, ap, ◌∙◌, ◌-◌, sym, subst}
use mathlib.Core.Option.{none}
use Rattle.atomic_table.specs.Table.{rest, Allows, step as one_step}
use Rattle.history_lock.specs.Rule.{word_index, HasOneHistory, GivesBack, view_after_return}
use Rattle.history_lock.specs.internals.Seats.{IsHolding, HaveLaneStates}
use Rattle.history_lock.proofs.Keeps.{gives_back}
use Rattle.history_lock.proofs.Claimed.{one_back}
use Rattle.history_lock.proofs.steps.give_all_back.Goals as goal

pub store-requires : goal.store-requires
store-requires g c =
    let seat = c.loop-left.seat in let me = seat.me in let common = c.args.common.now in let k = c.loop-left.left - 1 in let inv = c.loop-left.invariant in
    let t = one_back g.M.Machine.step common.key.value me.0 c.args._word k c.loop-left.left me.1 (omega arith) inv.2 inv.3 in (
      search rules,
      (let a = c.requires.table in let b = inv.1 in omega arith),
      subst (λ l. Allows (HasOneHistory g.M.Machine.step common.key.value) common.table_id.slots seat.id (me.0, l) (word_index k) (λ _. 0) (λ _. GivesBack (one_step common.table_id.slots (word_index k) 0 0 none) (me.0, l) 0)) (sym t.1)
          (gives_back g.M.Machine.step common.key.value common.table_id.slots seat.id k me.0 t.0 (rest me.1) t.3 t.4 t.2),
    )

pub loop-left-preserved : goal.loop-left-preserved
loop-left-preserved g c =
    let me = c.loop-left.seat.me in let common = c.args.common.now in let k = c.loop-left.left - 1 in let inv = c.loop-left.invariant in let most = inv.1 in
    let t = one_back g.M.Machine.step common.key.value me.0 c.args._word k c.loop-left.left me.1 (omega arith) inv.2 inv.3 in
    let is = c.store.ensures.2 k refl in let end = ap (λ m. m.0.end) is in (
      c.store.ensures.0 ∙ inv.0,
      (omega arith),
      subst (λ m. IsHolding m.0 k c.args._word) (sym is) t.5,
      subst (λ m. HaveLaneStates g.M.Machine.step common.key.value m.0.seen k m.1) (sym is) t.6,
      ap (λ m. m.0) is ∙ (ap (λ v. view_after_return v k) inv.4 ∙ (λ i. view_after_return c.args.seat.now.me.0 (sym end i))),
    )
