use Rattle.std.proofs.Common.{rules, arith}
use Rattle.command.proofs.Numerals.{read_back}
use Rattle.command.proofs.trace_options.slice_key_in.Goals as goal

pub returns-in_default : goal.returns-in_default
returns-in_default c = λ key small is. c.in_default.not-Ok key (read_back key c.args.words.now c.parse.result (omega (arith, small)) is c.parse.ensures.value.0)

pub returns-in_default-new : goal.returns-in_default-new
returns-in_default-new c = λ key small is.
    let back = read_back key c.args.words.now c.parse.result (omega (arith, small)) is c.parse.ensures.value.0 in
    search (rules, back, small)

pub returns : goal.returns
returns c = λ key small is.
    let back = read_back key c.args.words.now c.parse.result (omega (arith, small)) is c.parse.ensures.value.0 in
    search (rules, back, is)
