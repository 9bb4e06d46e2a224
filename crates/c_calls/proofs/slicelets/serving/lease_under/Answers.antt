use Rattle.std.proofs.Common.{◌≡◌, ◌∙◌, ℕ, Some, ap, refl, sym}
use Rattle.std.specs.Prelude.{option_map}
use Rattle.lease_rule.specs.declared.lease.Kind.{Kind}
use Rattle.grants.specs.declared.values.Grant.{Grant}
use Rattle.slicelet.specs.declared.heard.HeldLease.{HeldLease}
use Rattle.slicelet.specs.States.{held_lease}
use Rattle.c_calls.specs.slicelets.Leases.{details_of}
use Rattle.c_calls.proofs.slicelets.serving.lease_under.Goals as goal

details : (kind : Kind) (generation : ℕ) (lease : HeldLease) (grant : Grant) → grant.lease.kind ≡ kind → grant.lease.generation ≡ generation
    → lease ≡ held_lease grant → record { kind = kind; number = lease.number; generation = generation; until = lease.ends } ≡ details_of grant
details kind generation lease grant k g l = rw (sym k, sym g, l) refl

pub returns : goal.returns
returns c =
    let holds = c.serving_law.ensures in
    let lease = c.unwrap-lease.result in
    let found : Some lease ≡ Some (held_lease holds.grant) = sym c.unwrap-lease.ensures ∙ (c.held.ensures ∙ ap (option_map held_lease) holds.held) in
    let same : lease ≡ held_lease holds.grant = cc in
    record { holds = holds; is = details c.args.kind c.args.generation lease holds.grant holds.of_kind holds.of_generation same }
