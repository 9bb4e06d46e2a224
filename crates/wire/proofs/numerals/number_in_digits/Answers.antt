use Rattle.std.proofs.Common.{◌≡◌, ◌<◌, ◌^◌, rules, arith, sym, decimal}
use Rattle.std.proofs.lemmas.Fmt.{parse-decimal}
use Rattle.wire.proofs.Digits.{digits_read, no_digits}
use Rattle.wire.proofs.numerals.number_in_digits.Goals as goal

pub returns-then-eq : goal.returns-then-eq
returns-then-eq c =
    let small : c.in-Ok.number < 2 ^ 64 = omega (arith, c.in-Ok.ensures.value.0) in
    let is : c.args.text.now ≡ decimal c.in-Ok.number = search rules in
    sym (rw is (digits_read c.in-Ok.number small))

pub returns-else-eq : goal.returns-else-eq
returns-else-eq c = sym (no_digits c.args.text.now (λ n small is.
    let read = parse-decimal 64 n _ _ small small is c.parse.ensures.value.0 in
    let same : c.format.result.now ≡ c.args.text.now = cc in
    search rules))

pub returns-in-Err : goal.returns-in-Err
returns-in-Err c = sym (no_digits c.args.text.now (λ n small is. absurd (cc (parse-decimal 64 n _ _ small small is c.parse.ensures.value.0))))
