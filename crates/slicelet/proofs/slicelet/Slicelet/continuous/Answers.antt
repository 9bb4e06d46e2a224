use Rattle.std.proofs.Common.{◌≡◌, ◌∙◌, Bool, false, Ok, refl, sym, subst}
use Rattle.std.specs.Prelude.{Result}
use Rattle.grants.specs.declared.slicelet_error.Stranger.{Stranger}
use Rattle.slicelet.specs.Continuity.{is_strange, checked_in, IsChecked}
use Rattle.slicelet.proofs.Standing.{checks_after}
use Rattle.slicelet.proofs.slicelet.Slicelet.continuous.Goals as goal

pub returns-clause-calls : goal.returns-clause-calls
returns-clause-calls c = λ calls stands.
    let familiar : is_strange c.args.self.now c.args.handle.now ≡ false = sym c.is_strange.ensures ∙ c.if-is_strange.false in
    let answer : checked_in c.args.self.now c.args.handle.now c.args.at ≡ Ok c.is_continuous.result = rw (familiar, sym c.is_continuous.ensures) refl in
    subst (λ (r : Result Bool Stranger). IsChecked c.args.self.now.task calls c.args.handle.now c.args.at r) answer (checks_after calls c.args.self.now c.args.handle.now c.args.at c.key_law.ensures stands)
