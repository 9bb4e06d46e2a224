use Rattle.std.proofs.Common.{◌<◌, ◌^◌, arith}
use Rattle.log_causes.proofs.Telling.{fails, none_told, other_told}
use Rattle.log_causes.proofs.missing.is_one_told.Goals as goal

pub returns-in_default : goal.returns-in_default
returns-in_default c = λ number low high. none_told c.args.words.now c.in_ok-number.field-0 c.in_default.is c.in_ok-number.ensures.only number (omega (arith, c.well_formed))

pub returns-then-number-grants : goal.returns-then-number-grants
returns-then-number-grants c = λ number low high.
    let small : number < 2 ^ 64 = omega (arith, c.well_formed) in
    fails _ (λ tells.
    let same = other_told c.args.words.now c.in_ok-number.field-0 c.in-Some.number number c.in-Some.is (c.in_ok-number.ensures.only number small tells) in
    let before = c.if-number-grants.true in
    omega (arith, same, before))

pub returns-then-grants-number : goal.returns-then-grants-number
returns-then-grants-number c = λ number low high.
    let small : number < 2 ^ 64 = omega (arith, c.well_formed) in
    fails _ (λ tells.
    let same = other_told c.args.words.now c.in_ok-number.field-0 c.in-Some.number number c.in-Some.is (c.in_ok-number.ensures.only number small tells) in
    let after = c.if-grants-number.true in
    omega (arith, same, after))
