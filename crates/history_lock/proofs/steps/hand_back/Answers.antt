use Rattle.std.proofs.Common.{rules, refl, sym, subst}
use mathlib.Core.Option.{none}
use Rattle.atomic_table.specs.Table.{rest, Allows, step as one_step}
use Rattle.history_lock.specs.Rule.{word_index, HasOneHistory, GivesBack}
use Rattle.history_lock.proofs.Keeps.{gives_back}
use Rattle.history_lock.proofs.steps.hand_back.Goals as goal

pub store-requires : goal.store-requires
store-requires g c =
    let me = c.args.seat.now.me in let lane = c.args.lane in let seat = c.args.seat.now in let common = c.args.common.now in let out = c.requires.out in (
      search rules,
      search rules,
      subst (λ l. Allows (HasOneHistory g.M.Machine.step common.key.value) common.table_id.slots seat.id (me.0, l) (word_index lane) (λ _. 0) (λ _. GivesBack (one_step common.table_id.slots (word_index lane) 0 0 none) (me.0, l) 0)) (sym out.1)
          (gives_back g.M.Machine.step common.key.value common.table_id.slots seat.id lane me.0 out.0 (rest me.1) c.requires.range.0 c.requires.range.1 out.2),
    )

pub returns-clause-back : goal.returns-clause-back
returns-clause-back g c = c.store.ensures.2 c.args.lane refl
