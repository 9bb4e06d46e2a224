use Rattle.std.proofs.Common.{map, string_bytes}
use Rattle.clap.specs.Matches.{found_of}
use Rattle.clap.specs.Walk.{rows_of}
use Rattle.std.proofs.lemmas.Result.{err_from_is_err_and}
use Rattle.command.proofs.Words.{no_fault, refused_words, words_ask}
use Rattle.command.proofs.arguments.parse_words.Goals as goal

pub returns-in-Some-clause-ok : goal.returns-in-Some-clause-ok
returns-in-Some-clause-ok c =
    words_ask c.in_ok-hourstable_command.field-0 c.in_ok-matches.matches c.in_ok-hourstable_command.ensures (map string_bytes c.args.words.now) c.in-Some.name.now
    (rows_of (found_of c.in-Some.matches.now)) _ c.in_ok-matches.ensures.matches c.in-Some.ensures.name c.in-Some.ensures.rows c.in_ok-asked_by-in-Some.ensures

pub returns-in-Some-clause-faults : goal.returns-in-Some-clause-faults
returns-in-Some-clause-faults c =
    no_fault c.in_ok-hourstable_command.field-0 c.in_ok-matches.matches c.in_ok-hourstable_command.ensures (map string_bytes c.args.words.now) c.in_ok-matches.ensures.kinds

pub returns-in_err-matches-clause-faults : goal.returns-in_err-matches-clause-faults
returns-in_err-matches-clause-faults c =
    let p = err_from_is_err_and c.from_residual-in_err-matches.result c.from_residual-in_err-matches.ensures.1 in
    rw (p.1, p.2)
    (refused_words c.in_ok-hourstable_command.field-0 (map string_bytes c.args.words.now) c.in_err-matches.field-0.0 c.in_ok-hourstable_command.ensures c.in_err-matches.ensures.kinds)
