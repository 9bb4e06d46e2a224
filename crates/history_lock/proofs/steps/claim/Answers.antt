use Rattle.std.proofs.Common.{rules, refl, inl, ◌∙◌, ◌∷◌, Some}
use Rattle.history_lock.specs.Rule.{view_after_claim}
use Rattle.history_lock.proofs.Keeps.{claims}
use Rattle.history_lock.proofs.steps.claim.Goals as goal

pub compare_exchange-found-requires : goal.compare_exchange-found-requires
compare_exchange-found-requires g c =
    (c.requires.table.0, c.requires.table.1, claims g.M.Machine.step c.args.common.now.key.value _ _ _ _ _ c.requires.table.2 c.requires.idle.0 (c.args.lane, c.requires.lane, inl (refl, refl)))

pub returns-then-found-eq0-clause-answer : goal.returns-then-found-eq0-clause-answer
returns-then-found-eq0-clause-answer g c = let t = (c.compare_exchange-found.ensures.2 c.args.lane refl).0 c.if-found-eq0.true in (t.0, t.1, t.2 ∙ (λ i. (view_after_claim c.args.seat.now.me.0 c.args.lane c.args.lane 1 t.1, (c.args.lane, Some t.0) ∷ c.requires.idle.1 i)), t.3)

pub returns-else-found-eq0-clause-answer : goal.returns-else-found-eq0-clause-answer
returns-else-found-eq0-clause-answer g c = let t = (c.compare_exchange-found.ensures.2 c.args.lane refl).1 c.if-found-eq0.false in search rules
