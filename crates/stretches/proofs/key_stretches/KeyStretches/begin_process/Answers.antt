use Rattle.std.proofs.Common.{◌≡◌, ◌+◌, refl, ap, ◌∙◌, arith}
use Rattle.stretches.specs.internals.Adding.{newest_or}
use Rattle.stretches.proofs.Keeping.{next_process}
use Rattle.stretches.proofs.key_stretches.KeyStretches.begin_process.Goals as goal

pub returns-clause-kept : goal.returns-clause-kept
returns-clause-kept c calls life kept few =
    let old = c.args.self.now in
    let counted : c.saturating_add-self.result ≡ old.process + 1 = omega (arith, c.saturating_add-self.ensures, kept.process, few) in
    next_process calls old kept life _ refl counted
    (c.in_ok-add_some-2.ensures ∙ ap (newest_or old.second) c.in_ok-add_some.ensures) refl refl
