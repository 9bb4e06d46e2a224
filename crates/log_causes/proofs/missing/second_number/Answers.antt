use Rattle.std.proofs.Common.{◌∙◌, sym}
use Rattle.std.proofs.lemmas.Fmt.{parse-decimal}
use Rattle.log_causes.proofs.Telling.{after_name, before_later, read_once}
use Rattle.log_causes.proofs.missing.second_number.Goals as goal

pub returns-in_default-split_once : goal.returns-in_default-split_once
returns-in_default-split_once c = λ number small tells.
    let rest = rw c.in-Some.is at (after_name number small c.args.words.now tells c.split_once.result c.split_once.ensures.cases) in
    absurd (rw c.in_default-split_once.is at (before_later number small c.args.words.now tells c.in-Some.rest.now c.split_once-2.result rest c.split_once-2.ensures.cases))

pub returns-in-Ok : goal.returns-in-Ok
returns-in-Ok c = λ number small tells.
    let rest = rw c.in-Some.is at (after_name number small c.args.words.now tells c.split_once.result c.split_once.ensures.cases) in
    let digits = rw c.in-Some-split_once.is at (before_later number small c.args.words.now tells c.in-Some.rest.now c.split_once-2.result rest c.split_once-2.ensures.cases) in
    read_once c.parse.result c.in-Ok.number number c.in-Ok.is (parse-decimal 64 number _ _ small small digits c.parse.ensures.value.0)

pub returns-in-Err : goal.returns-in-Err
returns-in-Err c = λ number small tells.
    let rest = rw c.in-Some.is at (after_name number small c.args.words.now tells c.split_once.result c.split_once.ensures.cases) in
    let digits = rw c.in-Some-split_once.is at (before_later number small c.args.words.now tells c.in-Some.rest.now c.split_once-2.result rest c.split_once-2.ensures.cases) in
    absurd (cc (sym c.in-Err.is ∙ parse-decimal 64 number _ _ small small digits c.parse.ensures.value.0))
