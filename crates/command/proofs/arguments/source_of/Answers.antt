use Rattle.std.proofs.Common.{Option, codes, subst}
use Rattle.clap.specs.Matches.{found_of}
use Rattle.clap.specs.Walk.{Text}
use Rattle.command.specs.Words.{IsSource}
use Rattle.command.proofs.Words.{first_is}
use Rattle.command.proofs.arguments.source_of.Goals as goal

pub returns : goal.returns
returns c =
    subst (λ (f : Option Text). IsSource f c.source_named.result) (first_is (found_of c.args.matches.now) (codes "FILE") _ c.get_str.ensures) c.source_named.ensures
