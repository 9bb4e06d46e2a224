use Rattle.std.proofs.Common.{◌∷◌, ◌++◌, rules, arith}
use Rattle.std.specs.Prelude.{decimal}
use Rattle.command.proofs.Numerals.{all_digits, is_split, read_back, split_off}
use Rattle.command.proofs.audit_options.drift_in.Goals as goal

pub returns-in_default : goal.returns-in_default
returns-in_default c = λ drift extra per grain is.
    is_split 47 (omega arith) (decimal drift.extra) (decimal drift.per ++ 47 ∷ decimal drift.grain) c.args.words.now (all_digits drift.extra extra) is c.split_once.result (c.split_once.ensures.byte (omega arith) (λ w o f. f)) c.in_default.is

pub returns-in_default-split_once : goal.returns-in_default-split_once
returns-in_default-split_once c = λ drift extra per grain is.
    let parts = split_off 47 (omega arith) (decimal drift.extra) (decimal drift.per ++ 47 ∷ decimal drift.grain) c.args.words.now (all_digits drift.extra extra) is c.split_once.result (c.in-Some.extra, c.in-Some.rest) (c.split_once.ensures.byte (omega arith) (λ w o f. f)) c.in-Some.is in
    is_split 47 (omega arith) (decimal drift.per) (decimal drift.grain) c.in-Some.rest.now (all_digits drift.per per) parts.1 c.split_once-2.result (c.split_once-2.ensures.byte (omega arith) (λ w o f. f)) c.in_default-split_once.is

pub returns-in_default-2 : goal.returns-in_default-2
returns-in_default-2 c = λ drift extra per grain is.
    let parts = split_off 47 (omega arith) (decimal drift.extra) (decimal drift.per ++ 47 ∷ decimal drift.grain) c.args.words.now (all_digits drift.extra extra) is c.split_once.result (c.in-Some.extra, c.in-Some.rest) (c.split_once.ensures.byte (omega arith) (λ w o f. f)) c.in-Some.is in
    let ends = split_off 47 (omega arith) (decimal drift.per) (decimal drift.grain) c.in-Some.rest.now (all_digits drift.per per) parts.1 c.split_once-2.result (c.in-Some-split_once.per, c.in-Some-split_once.grain) (c.split_once-2.ensures.byte (omega arith) (λ w o f. f)) c.in-Some-split_once.is in
    let third = read_back drift.grain c.in-Some-split_once.grain.now c.parse-3.result grain ends.1 c.parse-3.ensures.value.0 in
    absurd (cc)

pub returns-in_default-2-2 : goal.returns-in_default-2-2
returns-in_default-2-2 c = λ drift extra per grain is.
    let parts = split_off 47 (omega arith) (decimal drift.extra) (decimal drift.per ++ 47 ∷ decimal drift.grain) c.args.words.now (all_digits drift.extra extra) is c.split_once.result (c.in-Some.extra, c.in-Some.rest) (c.split_once.ensures.byte (omega arith) (λ w o f. f)) c.in-Some.is in
    let ends = split_off 47 (omega arith) (decimal drift.per) (decimal drift.grain) c.in-Some.rest.now (all_digits drift.per per) parts.1 c.split_once-2.result (c.in-Some-split_once.per, c.in-Some-split_once.grain) (c.split_once-2.ensures.byte (omega arith) (λ w o f. f)) c.in-Some-split_once.is in
    let second = read_back drift.per c.in-Some-split_once.per.now c.parse-2.result per ends.0 c.parse-2.ensures.value.0 in
    absurd (cc)

pub returns-in_default-2-3 : goal.returns-in_default-2-3
returns-in_default-2-3 c = λ drift extra per grain is.
    let parts = split_off 47 (omega arith) (decimal drift.extra) (decimal drift.per ++ 47 ∷ decimal drift.grain) c.args.words.now (all_digits drift.extra extra) is c.split_once.result (c.in-Some.extra, c.in-Some.rest) (c.split_once.ensures.byte (omega arith) (λ w o f. f)) c.in-Some.is in
    let first = read_back drift.extra c.in-Some.extra.now c.parse.result extra parts.0 c.parse.ensures.value.0 in
    absurd (cc)

pub returns-in_default-new : goal.returns-in_default-new
returns-in_default-new c = λ drift extra per grain is.
    let parts = split_off 47 (omega arith) (decimal drift.extra) (decimal drift.per ++ 47 ∷ decimal drift.grain) c.args.words.now (all_digits drift.extra extra) is c.split_once.result (c.in-Some.extra, c.in-Some.rest) (c.split_once.ensures.byte (omega arith) (λ w o f. f)) c.in-Some.is in
    let ends = split_off 47 (omega arith) (decimal drift.per) (decimal drift.grain) c.in-Some.rest.now (all_digits drift.per per) parts.1 c.split_once-2.result (c.in-Some-split_once.per, c.in-Some-split_once.grain) (c.split_once-2.ensures.byte (omega arith) (λ w o f. f)) c.in-Some-split_once.is in
    let second = read_back drift.per c.in-Some-split_once.per.now c.parse-2.result per ends.0 c.parse-2.ensures.value.0 in
    let positive = drift.positive in
    search (rules, second, positive)

pub returns : goal.returns
returns c = λ drift extra per grain is.
    let parts = split_off 47 (omega arith) (decimal drift.extra) (decimal drift.per ++ 47 ∷ decimal drift.grain) c.args.words.now (all_digits drift.extra extra) is c.split_once.result (c.in-Some.extra, c.in-Some.rest) (c.split_once.ensures.byte (omega arith) (λ w o f. f)) c.in-Some.is in
    let ends = split_off 47 (omega arith) (decimal drift.per) (decimal drift.grain) c.in-Some.rest.now (all_digits drift.per per) parts.1 c.split_once-2.result (c.in-Some-split_once.per, c.in-Some-split_once.grain) (c.split_once-2.ensures.byte (omega arith) (λ w o f. f)) c.in-Some-split_once.is in
    let first = read_back drift.extra c.in-Some.extra.now c.parse.result extra parts.0 c.parse.ensures.value.0 in
    let second = read_back drift.per c.in-Some-split_once.per.now c.parse-2.result per ends.0 c.parse-2.ensures.value.0 in
    let third = read_back drift.grain c.in-Some-split_once.grain.now c.parse-3.result grain ends.1 c.parse-3.ensures.value.0 in
    search (rules, first, second, third, is)
