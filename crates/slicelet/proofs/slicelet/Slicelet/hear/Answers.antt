use Rattle.std.proofs.Common.{◌≡◌, ◌∙◌, ◌+◌, ◌∷◌, None, Some, Ok, sym, subst, rules, arith}
use Rattle.machines.specs.Refusals.{first_of}
use Rattle.grants.specs.declared.slicelet_call.SliceletCall.TheVariants.{Hear}
use Rattle.slicelet.specs.States.{SliceletState}
use Rattle.slicelet.specs.Steps.{hear_checks, hear_step}
use Rattle.slicelet.specs.internals.State.{state_of, stamps_in}
use Rattle.slicelet.proofs.Accepting.{hear_accepted, hear_counts}
use Rattle.slicelet.proofs.Keeping.{heard_stands, renewed_is}
use Rattle.slicelet.proofs.slicelet.Slicelet.hear.Goals.{then-renews, else-renews+in_ok-restamped}
use Rattle.slicelet.proofs.slicelet.Slicelet.hear.Goals as goal

pub restamped-requires : goal.restamped-requires
restamped-requires c =
    let accepted : first_of (hear_checks c.args.self.now c.args.grant.now c.args.at) ≡ None = search rules in
    hear_counts c.args.self.now c.args.grant.now c.args.at accepted

pub overflow_add-self : goal.overflow_add-self
overflow_add-self c =
    let accepted : first_of (hear_checks c.args.self.now c.args.grant.now c.args.at) ≡ None = search rules in
    let counts = rw (← c.self.view_is) at (hear_counts c.args.self.now c.args.grant.now c.args.at accepted) in
    omega (arith, counts)

pub invariant_of-self : goal.invariant_of-self
invariant_of-self c = elim c.if-renews.branch [
  | then-renews w ↦ absurd (let e = sym w.stamps-is ∙ c.in-Some.is in cc)
  | else-renews+in_ok-restamped w ↦ (
      let same : w.in_ok-restamped.field-0 ≡ c.in-Some.stamps = (let both = sym w.stamps-is ∙ c.in-Some.is in cc) in
      let accepted : first_of (hear_checks c.args.self.now c.args.grant.now c.args.at) ≡ None = search rules in
      let restamps = rw (← c.self.view_is, c.in_ok-copy.ensures, same) at w.in_ok-restamped.ensures in
      let stands = heard_stands c.self.inside.task c.self.inside.count c.self.inside.life c.self.inside.resumed c.self.inside.holding c.self.inside.heard (stamps_in c.self.inside.stamps) c.self.invariant.0 c.args.grant.now c.args.at _ c.self.invariant.1 (rw (← c.self.view_is) at accepted) restamps in
      (Hear c.args.grant.now c.args.at ∷ c.self.invariant.0, rw (c.put_stamps.ensures, c.put_lease.ensures, c.with-self-inside.ensures, c.in_ok-copy.ensures) stands.0))
]

pub returns-in-Some : goal.returns-in-Some
returns-in-Some c = elim c.if-renews.branch [
  | then-renews w ↦ absurd (let e = sym w.stamps-is ∙ c.in-Some.is in cc)
  | else-renews+in_ok-restamped w ↦ (
      let same : w.in_ok-restamped.field-0 ≡ c.in-Some.stamps = (let both = sym w.stamps-is ∙ c.in-Some.is in cc) in
      let accepted : first_of (hear_checks c.args.self.now c.args.grant.now c.args.at) ≡ None = search rules in
      let restamps = rw (← c.self.view_is, c.in_ok-copy.ensures, same) at w.in_ok-restamped.ensures in
      let stands = heard_stands c.self.inside.task c.self.inside.count c.self.inside.life c.self.inside.resumed c.self.inside.holding c.self.inside.heard (stamps_in c.self.inside.stamps) c.self.invariant.0 c.args.grant.now c.args.at _ c.self.invariant.1 (rw (← c.self.view_is) at accepted) restamps in
      subst (λ (s : SliceletState). hear_step s c.args.grant.now c.args.at ≡ Ok (state_of c.self.inside.task (c.self.inside.count + 1) c.self.inside.life c.self.inside.resumed c.put_lease.new.holding c.with-self-inside.result (stamps_in c.put_stamps.new.stamps), tt)) c.self.view_is
      (rw (c.put_stamps.ensures, c.put_lease.ensures, c.with-self-inside.ensures, c.in_ok-copy.ensures) stands.1))
]

pub invariant_of-self-in_default : goal.invariant_of-self-in_default
invariant_of-self-in_default c = elim c.if-renews.branch [
  | then-renews w ↦ (
      let accepted : first_of (hear_checks c.args.self.now c.args.grant.now c.args.at) ≡ None = search rules in
      let here = rw (← c.self.view_is) at accepted in
      let hears = hear_accepted c.args.self.now c.args.grant.now c.args.at accepted in
      let restamps = renewed_is c.self.inside.task c.self.inside.count c.self.inside.life c.self.inside.resumed c.self.inside.holding c.self.inside.heard (stamps_in c.self.inside.stamps) c.self.invariant.0 c.args.grant.now.lease.kind (Some c.args.grant.now.lease) c.args.at c.self.invariant.1 (rw (← c.self.view_is) at hears.started) (rw (← c.self.view_is) at hears.in_order) (rw c.in_ok-copy.ensures at (c.renews.ensures w.if-renews.true)) in
      let stands = heard_stands c.self.inside.task c.self.inside.count c.self.inside.life c.self.inside.resumed c.self.inside.holding c.self.inside.heard (stamps_in c.self.inside.stamps) c.self.invariant.0 c.args.grant.now c.args.at (stamps_in c.self.inside.stamps) c.self.invariant.1 here restamps in
      (Hear c.args.grant.now c.args.at ∷ c.self.invariant.0, rw (c.put_lease.ensures, c.with-self-inside.ensures, c.in_ok-copy.ensures) stands.0))
  | else-renews+in_ok-restamped w ↦ absurd (let e = sym w.stamps-is ∙ c.in_default.is in cc)
]

pub returns-in_default : goal.returns-in_default
returns-in_default c = elim c.if-renews.branch [
  | then-renews w ↦ (
      let accepted : first_of (hear_checks c.args.self.now c.args.grant.now c.args.at) ≡ None = search rules in
      let here = rw (← c.self.view_is) at accepted in
      let hears = hear_accepted c.args.self.now c.args.grant.now c.args.at accepted in
      let restamps = renewed_is c.self.inside.task c.self.inside.count c.self.inside.life c.self.inside.resumed c.self.inside.holding c.self.inside.heard (stamps_in c.self.inside.stamps) c.self.invariant.0 c.args.grant.now.lease.kind (Some c.args.grant.now.lease) c.args.at c.self.invariant.1 (rw (← c.self.view_is) at hears.started) (rw (← c.self.view_is) at hears.in_order) (rw c.in_ok-copy.ensures at (c.renews.ensures w.if-renews.true)) in
      let stands = heard_stands c.self.inside.task c.self.inside.count c.self.inside.life c.self.inside.resumed c.self.inside.holding c.self.inside.heard (stamps_in c.self.inside.stamps) c.self.invariant.0 c.args.grant.now c.args.at (stamps_in c.self.inside.stamps) c.self.invariant.1 here restamps in
      subst (λ (s : SliceletState). hear_step s c.args.grant.now c.args.at ≡ Ok (state_of c.self.inside.task (c.self.inside.count + 1) c.self.inside.life c.self.inside.resumed c.put_lease.new.holding c.with-self-inside.result (stamps_in c.self.inside.stamps), tt)) c.self.view_is
      (rw (c.put_lease.ensures, c.with-self-inside.ensures, c.in_ok-copy.ensures) stands.1))
  | else-renews+in_ok-restamped w ↦ absurd (let e = sym w.stamps-is ∙ c.in_default.is in cc)
]
