use Rattle.std.proofs.Common.{◌∙◌, Option, ap, codes, map, refl, sym}
use Rattle.clap.specs.Matches.{found_of}
use Rattle.clap.specs.Walk.{Text}
use Rattle.command.specs.Words.{with_first}
use Rattle.command.proofs.Words.{first_is}
use Rattle.command.proofs.arguments.log_request.Goals as goal

pub returns-in-Some : goal.returns-in-Some
returns-in-Some c =
    let file = first_is (found_of c.args.matches.now) (codes "FILE") _ c.get_str.ensures in
    rw (sym file, c.in-Some.is) refl

pub returns : goal.returns
returns c =
    let found = found_of c.args.matches.now in
    let file = first_is found (codes "FILE") _ c.get_str.ensures in
    let from = first_is found (codes "from") _ c.get_str-from.ensures in
    rw (sym file, c.in_default.is) (
      c.in_ok-names_of.ensures ∙ ap (λ (f : Option Text). with_first f (map (λ n. n.now) c.args.given.now)) from,
      c.trace_flags.ensures,
    )
