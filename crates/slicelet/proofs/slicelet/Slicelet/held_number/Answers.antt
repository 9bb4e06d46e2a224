use Rattle.std.proofs.Common.{◌≡◌, ◌∙◌, sym, refl, false}
use Rattle.std.specs.Prelude.{Option, Some, None, is_some, option_map}
use Rattle.grants.specs.declared.values.Grant.{Grant}
use Rattle.slicelet.specs.internals.State.{stamps_in}
use Rattle.slicelet.proofs.Keeping.{holds_kept}
use Rattle.slicelet.proofs.Standing.{number_held}
use Rattle.slicelet.proofs.slicelet.Slicelet.held_number.Goals as goal

none_held : (o : Option Grant) → is_some o ≡ false → None ≡ option_map (λ (grant : Grant). grant.number) o
none_held None e = refl
none_held (Some grant) e = absurd (cc)

pub returns-then-holds : goal.returns-then-holds
returns-then-holds c =
    let held = sym (holds_kept c.self.inside.task c.self.inside.count c.self.inside.life c.self.inside.resumed c.self.inside.holding c.self.inside.heard (stamps_in c.self.inside.stamps) c.args.kind) ∙ sym c.holds.ensures ∙ c.if-holds.true in
    let number = number_held c.self.invariant.0 _ c.self.invariant.1 c.args.kind held in
    c.greatest_number.ensures ∙ (rw c.self.view_is at number)

pub returns-else-holds : goal.returns-else-holds
returns-else-holds c =
    let held = sym (holds_kept c.self.inside.task c.self.inside.count c.self.inside.life c.self.inside.resumed c.self.inside.holding c.self.inside.heard (stamps_in c.self.inside.stamps) c.args.kind) ∙ sym c.holds.ensures ∙ c.if-holds.false in
    rw (sym c.self.view_is) (none_held _ held)
