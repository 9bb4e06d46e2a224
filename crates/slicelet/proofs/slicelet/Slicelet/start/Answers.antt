use Rattle.std.proofs.Common.{◌≡◌, ◌∷◌, None, Ok, Result, ap, sym, subst, rules}
use Rattle.machines.specs.Refusals.{first_of}
use Rattle.grants.specs.declared.slicelet_call.SliceletCall.TheVariants.{Start}
use Rattle.grants.specs.declared.slicelet_error.SliceletError.{SliceletError}
use Rattle.slicelet.specs.States.{SliceletState}
use Rattle.slicelet.specs.Steps.{start_checks}
use Rattle.slicelet.specs.Accepted.{StandsAfter}
use Rattle.slicelet.specs.internals.State.{stamps_in}
use Rattle.slicelet.proofs.Keeping.{started_is}
use Rattle.slicelet.proofs.Standing.{leads_on}
use Rattle.slicelet.proofs.slicelet.Slicelet.start.Goals as goal

pub invariant_of-self : goal.invariant_of-self
invariant_of-self c =
    let accepted : first_of (start_checks c.args.self.now c.args.life c.args.at) ≡ None = search rules in
    let next = leads_on c.self.invariant.0 _ (Start c.args.life c.args.at) c.self.invariant.1 (rw (← c.self.view_is) at accepted) in
    let left = subst (λ (s : SliceletState). StandsAfter (Start c.args.life c.args.at ∷ c.self.invariant.0) s) (sym (started_is c.self.inside.task c.self.inside.count c.self.inside.life c.self.inside.resumed c.self.inside.holding c.self.inside.heard (stamps_in c.self.inside.stamps) c.args.life c.args.at)) next in
    (Start c.args.life c.args.at ∷ c.self.invariant.0, rw (c.no_leases.ensures, c.no_grants-self-inside.ensures) left)

pub returns : goal.returns
returns c =
    let accepted : first_of (start_checks c.args.self.now c.args.life c.args.at) ≡ None = search rules in
    let started = started_is c.self.inside.task c.self.inside.count c.self.inside.life c.self.inside.resumed c.self.inside.holding c.self.inside.heard (stamps_in c.self.inside.stamps) c.args.life c.args.at in
    let told : SliceletState → Result (SliceletState × Unit {0}) SliceletError = λ s. Ok (s, tt) in
    rw (accepted, c.no_leases.ensures, c.no_grants-self-inside.ensures, ← c.self.view_is) (ap told (sym started))
