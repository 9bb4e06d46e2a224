use Rattle.std.proofs.Common.{◌∙◌, true≢false, ap, sym}
use Rattle.log_causes.specs.Hints.{tells_grant}
use Rattle.log_causes.proofs.Telling.{fails, none_told, other_told}
use Rattle.log_causes.proofs.missing.number_told.Goals as goal

pub returns-in_default-clause-told : goal.returns-in_default-clause-told
returns-in_default-clause-told c = none_told c.args.words.now c.second_number.result c.in_default.is c.second_number.ensures

pub returns-else-branch-clause-told : goal.returns-else-branch-clause-told
returns-else-branch-clause-told c = λ number small. fails _ (λ tells.
    let same = other_told c.args.words.now c.second_number.result c.in-Some.number number c.in-Some.is (c.second_number.ensures number small tells) in
    true≢false (sym tells ∙ ap (λ n. tells_grant n c.args.words.now) same ∙ sym c.in_ok-tells_grant.ensures ∙ c.if-branch.false))

pub returns-else-branch-clause-only : goal.returns-else-branch-clause-only
returns-else-branch-clause-only c = λ number small tells.
    let same = other_told c.args.words.now c.second_number.result c.in-Some.number number c.in-Some.is (c.second_number.ensures number small tells) in
    absurd (true≢false (sym tells ∙ ap (λ n. tells_grant n c.args.words.now) same ∙ sym c.in_ok-tells_grant.ensures ∙ c.if-branch.false))
