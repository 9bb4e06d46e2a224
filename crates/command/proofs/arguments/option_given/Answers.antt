use Rattle.std.proofs.Common.{refl, sym}
use Rattle.clap.specs.Matches.{found_of}
use Rattle.command.proofs.Words.{first_is}
use Rattle.command.proofs.arguments.option_given.Goals as goal

pub returns-in-Some : goal.returns-in-Some
returns-in-Some c =
    let given = first_is (found_of c.args.matches.now) c.args.name.now _ c.get_str.ensures in
    rw (sym given, c.in-Some.is) refl

pub returns-in-None : goal.returns-in-None
returns-in-None c =
    let given = first_is (found_of c.args.matches.now) c.args.name.now _ c.get_str.ensures in
    rw (sym given, c.in-None.is) refl
