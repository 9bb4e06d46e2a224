use Rattle.std.proofs.Common.{◌≡◌, ℕ, ◌≤◌, refl, sym, ap, subst, ◌∙◌, arith}
use Rattle.std.specs.Prelude.{Option, reverse}
use Rattle.slicelet.specs.Calls.{last_reading}
use Rattle.slicelet.specs.Rules.{covers_key}
use Rattle.slicelet.specs.States.{SliceletState, rule_in_state}
use Rattle.stretches.specs.declared.stretch.Stretch.{Stretch}
use Rattle.stretches.specs.Stretches.{below, first_some, lease_by, lease_of, of_allowing, stretch_in, then_in, AreNext}
use Rattle.stretches.specs.internals.Adding.{newest_or}
use Rattle.stretches.proofs.Keeping.{kept_next, one_later}
use Rattle.stretches.proofs.Leases.{serving_from, next_from}
use Rattle.stretches.proofs.key_stretches.KeyStretches.observe.Goals as goal

pub returns-clause-kept : goal.returns-clause-kept
returns-clause-kept c before after kept stands next =
    let old = c.args.self.now in
    let s = c.args.slicelet.now in
    let key = old.key in
    let process = old.process in
    let now = c.last_reading-now.result in
    let read : now ≡ last_reading after = c.last_reading-now.ensures ∙ ap (λ (s : SliceletState). s.last) stands.state in
    let not_early : s.last ≤ now = omega (arith, c.last_reading-now.ensures) in
    let first : c.stretch_from-self.result ≡ stretch_in s key process now = c.stretch_from-self.ensures in
    let second : c.stretch_after-self.result ≡ then_in s key process (stretch_in s key process now) = c.stretch_after-self.ensures ∙ ap (then_in s key process) first in
    let one : c.part.result ≡ below (last_reading after) old.first = c.part.ensures ∙ ap (λ (n : ℕ). below n old.first) read in
    let two : c.part-2.result ≡ below (last_reading after) old.second = c.part-2.ensures ∙ ap (λ (n : ℕ). below n old.second) read in
    kept_next before after old _ kept (one_later s.task before after stands.accepted next) refl refl
    (c.in_ok-add_some-2.ensures
    ∙ ap (λ (o : Option Stretch). newest_or o (reverse c.add_some.new.stretches.items)) two
    ∙ ap (newest_or (below (last_reading after) old.second)) (c.in_ok-add_some.ensures ∙ ap (λ (o : Option Stretch). newest_or o (reverse old.over.items)) one))
    (λ at late.
    ap (λ (o : Option Stretch). first_some (lease_by process at o) (lease_by process at c.stretch_from-self.result)) second
    ∙ ap (λ (o : Option Stretch). first_some (lease_by process at (then_in s key process (stretch_in s key process now))) (lease_by process at o)) first
    ∙ serving_from s key process now at not_early (omega (arith, read, late))
    ∙ ap (λ (s : SliceletState). of_allowing lease_of (rule_in_state (covers_key key) s at) s.guard s.bridge) stands.state)
    (subst (λ (n : ℕ). AreNext process n c.stretch_from-self.result c.stretch_after-self.result) read
    (subst (λ (o : Option Stretch). AreNext process now c.stretch_from-self.result o) (sym second)
    (subst (λ (o : Option Stretch). AreNext process now o (then_in s key process (stretch_in s key process now))) (sym first) (next_from s key process now not_early))))
