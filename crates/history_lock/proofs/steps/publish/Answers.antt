use Rattle.std.proofs.Common.{rules, refl, ap, ◌∙◌, sym, subst}
use mathlib.Core.Option.{none}
use Rattle.atomic_table.specs.Table.{rest, Allows, step as one_step}
use Rattle.history_lock.specs.Rule.{word_index, HasOneHistory, Publishes, log_of, view_after_write}
use Rattle.history_lock.proofs.Keeps.{publishes}
use Rattle.history_lock.proofs.steps.publish.Goals as goal

pub store-requires : goal.store-requires
store-requires g c =
    let me = c.args.seat.now.me in let b = c.args.lane_state in let lane = c.args.lane in let seat = c.exchange.new.seat in let common = c.args.common.now in let grows = c.requires.grows in (
      search rules,
      search rules,
      subst (λ m. Allows (HasOneHistory g.M.Machine.step common.key.value) common.table_id.slots seat.id m (word_index lane) (λ _. 0) (λ _. Publishes (one_step common.table_id.slots (word_index lane) 0 0 none) m 0)) (sym c.exchange.ensures.3)
          (publishes g.M.Machine.step common.key.value common.table_id.slots seat.id grows.0 lane me.0 b (rest me.1) c.requires.table.2 c.requires.range.0 c.requires.range.1 grows.1 c.requires.range.2 grows.2 c.requires.legal c.requires.short),
    )

pub returns-clause-back : goal.returns-clause-back
returns-clause-back g c = c.store.ensures.2 c.args.lane refl ∙ ap (λ m. (view_after_write m.0 c.args.lane (log_of m.1), rest m.1)) c.exchange.ensures.3
