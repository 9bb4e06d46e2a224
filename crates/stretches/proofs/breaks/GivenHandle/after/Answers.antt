use Rattle.std.proofs.Common.{◌≡◌, ℕ, ◌≤◌, ◌<◌, sym, ap, subst, ◌∙◌, arith}
use Rattle.std.specs.Prelude.{max}
use Rattle.slicelet.specs.Calls.{last_reading}
use Rattle.slicelet.specs.States.{SliceletState, state_after}
use Rattle.stretches.specs.Stretches.{processes}
use Rattle.stretches.specs.Breaks.{IsFirstWithout, is_found_at, is_found_in}
use Rattle.stretches.proofs.Keeping.{IsLater, one_later}
use Rattle.stretches.proofs.Breaking.{first_over, first_early, first_late}
use Rattle.stretches.proofs.breaks.GivenHandle.after.Goals as goal

pub returns-then-self-process-clause-breaks : goal.returns-then-self-process-clause-breaks
returns-then-self-process-clause-breaks c before after b own stands next =
    let s = c.args.slicelet.now in
    let given = c.args.self in
    let later : IsLater before after = one_later s.task before after stands.accepted next in
    let p = b.process in
    let earlier : given.process < processes after = omega (arith, p, own, later.same, c.if-self-process.true) in
    record { process = omega (arith, earlier); first = first_over s.task given.handle before after later given.process given.from given.breaks earlier b.first }

pub returns-then-self-now-clause-breaks : goal.returns-then-self-now-clause-breaks
returns-then-self-now-clause-breaks c before after b own stands next =
    let s = c.args.slicelet.now in
    let given = c.args.self in
    let later : IsLater before after = one_later s.task before after stands.accepted next in
    let last : given.process ≡ processes after = c.if-self-process.false ∙ own ∙ sym later.same in
    let read : s.last ≡ last_reading after = ap (λ (s : SliceletState). s.last) stands.state in
    let early : given.breaks < last_reading after = omega (arith, c.if-self-now.true, c.last_reading-now.ensures, read) in
    record {
      process = omega (arith, last);
      first = subst (λ (n : ℕ). IsFirstWithout (is_found_at s.task after n given.handle) given.from given.breaks) (sym last)
          (first_early s.task given.handle before after later given.from given.breaks early
          (subst (λ (n : ℕ). IsFirstWithout (is_found_at s.task before n given.handle) given.from given.breaks) last b.first));
    }

pub returns-clause-breaks : goal.returns-clause-breaks
returns-clause-breaks c before after b own stands next =
    let s = c.args.slicelet.now in
    let given = c.args.self in
    let new = c.break_from-breaks.result in
    let later : IsLater before after = one_later s.task before after stands.accepted next in
    let last : given.process ≡ processes after = c.if-self-process.false ∙ own ∙ sym later.same in
    let read : s.last ≡ last_reading after = ap (λ (s : SliceletState). s.last) stands.state in
    let now : c.last_reading-now.result ≡ last_reading after = c.last_reading-now.ensures ∙ read in
    let from : c.max.result ≡ max (last_reading after) given.from = c.max.ensures ∙ ap (λ (n : ℕ). max n given.from) now in
    let not_early : s.last ≤ c.max.result = grind (arith, read, from) in
    let first : IsFirstWithout (is_found_in (state_after s.task after) given.handle) (max (last_reading after) given.from) new
    = subst (λ (n : ℕ). IsFirstWithout (is_found_in (state_after s.task after) given.handle) n new) from
    (subst (λ (state : SliceletState). IsFirstWithout (is_found_in state given.handle) c.max.result new) stands.state (c.break_from-breaks.ensures not_early)) in
    record {
      process = omega (arith, last);
      first = subst (λ (n : ℕ). IsFirstWithout (is_found_at s.task after n given.handle) given.from new) (sym last)
          (first_late s.task given.handle before after later given.from given.breaks new (omega (arith, c.if-self-now.false, now))
          (subst (λ (n : ℕ). IsFirstWithout (is_found_at s.task before n given.handle) given.from given.breaks) last b.first) first);
    }
