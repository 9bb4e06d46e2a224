use Rattle.std.proofs.Common.{◌∙◌, sym, ap}
use Rattle.lease_rule.specs.Rule.{SeenHolding, rule, newest_covering}
use Rattle.slicelet.specs.Rules.{covers_key}
use Rattle.slicelet.specs.internals.State.{stamps_in}
use Rattle.slicelet.proofs.Keeping.{seen_kept}
use Rattle.slicelet.proofs.Standing.{rule_by_calls}
use Rattle.slicelet.proofs.slicelet.Slicelet.serve_and_newest.Goals as goal

pub returns-clause-state : goal.returns-clause-state
returns-clause-state c =
    let seen = seen_kept c.self.inside.task c.self.inside.count c.self.inside.life c.self.inside.resumed c.self.inside.holding c.self.inside.heard (stamps_in c.self.inside.stamps) c.args.key in
    rw (sym c.self.view_is) (c.verdict_and_newest.ensures.verdict ∙ ap (λ (h : SeenHolding). rule h c.args.at) seen)

pub returns-clause-calls : goal.returns-clause-calls
returns-clause-calls c = λ calls stands.
    let seen = seen_kept c.self.inside.task c.self.inside.count c.self.inside.life c.self.inside.resumed c.self.inside.holding c.self.inside.heard (stamps_in c.self.inside.stamps) c.args.key in
    c.verdict_and_newest.ensures.verdict ∙ ap (λ (h : SeenHolding). rule h c.args.at) seen ∙ rule_by_calls (covers_key c.args.key) calls _ c.args.at (rw (← c.self.view_is) at stands)

pub returns-clause-newest : goal.returns-clause-newest
returns-clause-newest c =
    let seen = seen_kept c.self.inside.task c.self.inside.count c.self.inside.life c.self.inside.resumed c.self.inside.holding c.self.inside.heard (stamps_in c.self.inside.stamps) c.args.key in
    rw (sym c.self.view_is) (c.verdict_and_newest.ensures.newest ∙ ap (λ (h : SeenHolding). newest_covering h) seen)
