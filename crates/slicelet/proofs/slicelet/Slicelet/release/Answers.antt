use Rattle.std.proofs.Common.{◌≡◌, ◌∙◌, ◌+◌, ◌∷◌, None, Ok, sym, subst, rules, arith}
use Rattle.machines.specs.Refusals.{first_of}
use Rattle.grants.specs.declared.slicelet_call.SliceletCall.TheVariants.{Release}
use Rattle.slicelet.specs.States.{SliceletState, held_in}
use Rattle.slicelet.specs.Steps.{release_checks, release_step, number_of}
use Rattle.slicelet.specs.internals.State.{state_of, stamps_in}
use Rattle.slicelet.proofs.Accepting.{release_accepted, release_counts}
use Rattle.slicelet.proofs.Keeping.{released_stands, renewed_is}
use Rattle.slicelet.proofs.slicelet.Slicelet.release.Goals.{then-renews, else-renews+in_ok-restamped, in-Some, in_default}
use Rattle.slicelet.proofs.slicelet.Slicelet.release.Goals as goal

pub restamped-requires : goal.restamped-requires
restamped-requires c =
    let accepted : first_of (release_checks c.args.self.now c.args.kind c.args.at) ≡ None = search rules in
    release_counts c.args.self.now c.args.kind c.args.at accepted

pub overflow_add-self : goal.overflow_add-self
overflow_add-self c =
    let accepted : first_of (release_checks c.args.self.now c.args.kind c.args.at) ≡ None = search rules in
    let counts = rw (← c.self.view_is) at (release_counts c.args.self.now c.args.kind c.args.at accepted) in
    omega (arith, counts)

pub invariant_of-self : goal.invariant_of-self
invariant_of-self c = elim c.if-renews.branch [
  | then-renews w ↦ absurd (let e = sym w.stamps-is ∙ c.in-Some.is in cc)
  | else-renews+in_ok-restamped w ↦ (
      let same : w.in_ok-restamped.field-0 ≡ c.in-Some.stamps = (let both = sym w.stamps-is ∙ c.in-Some.is in cc) in
      let accepted : first_of (release_checks c.args.self.now c.args.kind c.args.at) ≡ None = search rules in
      let number : c.in_ok-number.number ≡ number_of (held_in c.args.self.now c.args.kind) = search rules in
      let restamps = rw (← c.self.view_is, same) at w.in_ok-restamped.ensures in
      let stands = released_stands c.self.inside.task c.self.inside.count c.self.inside.life c.self.inside.resumed c.self.inside.holding c.self.inside.heard (stamps_in c.self.inside.stamps) c.self.invariant.0 c.args.kind c.args.at _ c.in_ok-number.number c.self.invariant.1 (rw (← c.self.view_is) at accepted) (rw (← c.self.view_is) at number) restamps in
      (Release c.args.kind c.args.at ∷ c.self.invariant.0, rw (c.put_stamps.ensures, c.put_lease.ensures) stands.0))
]

pub invariant_of-self-in_default : goal.invariant_of-self-in_default
invariant_of-self-in_default c = elim c.if-renews.branch [
  | then-renews w ↦ (
      let accepted : first_of (release_checks c.args.self.now c.args.kind c.args.at) ≡ None = search rules in
      let number : c.in_ok-number.number ≡ number_of (held_in c.args.self.now c.args.kind) = search rules in
      let releases = release_accepted c.args.self.now c.args.kind c.args.at accepted in
      let restamps = renewed_is c.self.inside.task c.self.inside.count c.self.inside.life c.self.inside.resumed c.self.inside.holding c.self.inside.heard (stamps_in c.self.inside.stamps) c.self.invariant.0 c.args.kind None c.args.at c.self.invariant.1 (rw (← c.self.view_is) at releases.started) (rw (← c.self.view_is) at releases.in_order) (c.renews.ensures w.if-renews.true) in
      let stands = released_stands c.self.inside.task c.self.inside.count c.self.inside.life c.self.inside.resumed c.self.inside.holding c.self.inside.heard (stamps_in c.self.inside.stamps) c.self.invariant.0 c.args.kind c.args.at (stamps_in c.self.inside.stamps) c.in_ok-number.number c.self.invariant.1 (rw (← c.self.view_is) at accepted) (rw (← c.self.view_is) at number) restamps in
      (Release c.args.kind c.args.at ∷ c.self.invariant.0, rw c.put_lease.ensures stands.0))
  | else-renews+in_ok-restamped w ↦ absurd (let e = sym w.stamps-is ∙ c.in_default.is in cc)
]

pub returns : goal.returns
returns c = elim c.match-stamps.branch [
  | in-Some v ↦ rw v.self-is (elim c.if-renews.branch [
    | then-renews w ↦ absurd (let e = sym w.stamps-is ∙ v.in-Some.is in cc)
    | else-renews+in_ok-restamped w ↦ (
        let same : w.in_ok-restamped.field-0 ≡ v.in-Some.stamps = (let both = sym w.stamps-is ∙ v.in-Some.is in cc) in
        let accepted : first_of (release_checks c.args.self.now c.args.kind c.args.at) ≡ None = search rules in
        let number : c.in_ok-number.number ≡ number_of (held_in c.args.self.now c.args.kind) = search rules in
        let restamps = rw (← c.self.view_is, same) at w.in_ok-restamped.ensures in
        let stands = released_stands c.self.inside.task c.self.inside.count c.self.inside.life c.self.inside.resumed c.self.inside.holding c.self.inside.heard (stamps_in c.self.inside.stamps) c.self.invariant.0 c.args.kind c.args.at _ c.in_ok-number.number c.self.invariant.1 (rw (← c.self.view_is) at accepted) (rw (← c.self.view_is) at number) restamps in
        subst (λ (s : SliceletState). release_step s c.args.kind c.args.at ≡ Ok (
          state_of c.self.inside.task (c.self.inside.count + 1) c.self.inside.life c.self.inside.resumed c.put_lease.new.holding c.self.inside.heard (stamps_in v.put_stamps.new.stamps),
          record { task = c.self.inside.task; life = c.self.inside.life; kind = c.args.kind; number = c.in_ok-number.number },
        )) c.self.view_is
        (rw (v.put_stamps.ensures, c.put_lease.ensures) stands.1))
  ])
  | in_default v ↦ rw v.self-is (elim c.if-renews.branch [
    | then-renews w ↦ (
        let accepted : first_of (release_checks c.args.self.now c.args.kind c.args.at) ≡ None = search rules in
        let number : c.in_ok-number.number ≡ number_of (held_in c.args.self.now c.args.kind) = search rules in
        let releases = release_accepted c.args.self.now c.args.kind c.args.at accepted in
        let restamps = renewed_is c.self.inside.task c.self.inside.count c.self.inside.life c.self.inside.resumed c.self.inside.holding c.self.inside.heard (stamps_in c.self.inside.stamps) c.self.invariant.0 c.args.kind None c.args.at c.self.invariant.1 (rw (← c.self.view_is) at releases.started) (rw (← c.self.view_is) at releases.in_order) (c.renews.ensures w.if-renews.true) in
        let stands = released_stands c.self.inside.task c.self.inside.count c.self.inside.life c.self.inside.resumed c.self.inside.holding c.self.inside.heard (stamps_in c.self.inside.stamps) c.self.invariant.0 c.args.kind c.args.at (stamps_in c.self.inside.stamps) c.in_ok-number.number c.self.invariant.1 (rw (← c.self.view_is) at accepted) (rw (← c.self.view_is) at number) restamps in
        subst (λ (s : SliceletState). release_step s c.args.kind c.args.at ≡ Ok (
          state_of c.self.inside.task (c.self.inside.count + 1) c.self.inside.life c.self.inside.resumed c.put_lease.new.holding c.self.inside.heard (stamps_in c.self.inside.stamps),
          record { task = c.self.inside.task; life = c.self.inside.life; kind = c.args.kind; number = c.in_ok-number.number },
        )) c.self.view_is
        (rw c.put_lease.ensures stands.1))
    | else-renews+in_ok-restamped w ↦ absurd (let e = sym w.stamps-is ∙ v.in_default.is in cc)
  ])
]
