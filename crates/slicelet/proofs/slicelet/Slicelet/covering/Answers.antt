use Rattle.std.proofs.Common.{◌≡◌, ◌∙◌, ℕ, refl, sym}
use Rattle.std.specs.Prelude.{Option, Some, None, option_map}
use Rattle.lease_rule.specs.declared.lease.Lease.{Lease}
use Rattle.lease_rule.specs.Leases.{seen_from}
use Rattle.slicelet.specs.declared.heard.HeardGrant.{HeardGrant}
use Rattle.lease_rule.specs.Rule.{covering_generation}
use Rattle.slicelet.specs.Rules.{seen_by, covers_key}
use Rattle.slicelet.specs.internals.State.{granted_as}
use Rattle.slicelet.proofs.slicelet.Slicelet.covering.Goals as goal

as_granted : (key task life : ℕ) (heard : Option HeardGrant) (lease : Option Lease)
    → covering_generation (option_map (seen_from key) lease) ≡ covering_generation (option_map (seen_by (covers_key key)) (option_map (granted_as task life heard) lease))
as_granted key task life heard None = refl
as_granted key task life heard (Some lease) = refl

pub returns-in-Guard : goal.returns-in-Guard
returns-in-Guard c = rw (c.in-Guard.is, sym c.self.view_is)
    (c.covering_generation.ensures ∙ as_granted c.args.key c.self.inside.task c.self.inside.life c.self.inside.heard.guard c.self.inside.holding.guard)

pub returns-in-Bridge : goal.returns-in-Bridge
returns-in-Bridge c = rw (c.in-Bridge.is, sym c.self.view_is)
    (c.covering_generation-in-Bridge.ensures ∙ as_granted c.args.key c.self.inside.task c.self.inside.life c.self.inside.heard.bridge c.self.inside.holding.bridge)
