use Rattle.std.proofs.Common.{◌≡◌, ◌∙◌, ℕ, refl, sym}
use Rattle.std.specs.Prelude.{Option, Some, None, option_map}
use Rattle.lease_rule.specs.declared.lease.Lease.{Lease}
use Rattle.slicelet.specs.declared.heard.HeardGrant.{HeardGrant}
use Rattle.slicelet.specs.declared.heard.HeldLease.{HeldLease}
use Rattle.slicelet.specs.States.{held_lease}
use Rattle.slicelet.specs.internals.State.{number_or_0, granted_as}
use Rattle.slicelet.proofs.slicelet.Slicelet.held.Goals as goal

as_granted : (task life : ℕ) (heard : Option HeardGrant) (lease : Option Lease)
    → option_map (λ (l : Lease). (let h : HeldLease = record { number = number_or_0 heard; generation = l.generation; ends = l.ends } in h)) lease
    ≡ option_map held_lease (option_map (granted_as task life heard) lease)
as_granted task life heard None = refl
as_granted task life heard (Some lease) = refl

pub returns-in-Guard : goal.returns-in-Guard
returns-in-Guard c = rw (c.in-Guard.is, sym c.self.view_is) (c.held_as.ensures ∙ as_granted c.self.inside.task c.self.inside.life c.self.inside.heard.guard c.self.inside.holding.guard)

pub returns-in-Bridge : goal.returns-in-Bridge
returns-in-Bridge c = rw (c.in-Bridge.is, sym c.self.view_is) (c.held_as-in-Bridge.ensures ∙ as_granted c.self.inside.task c.self.inside.life c.self.inside.heard.bridge c.self.inside.holding.bridge)
