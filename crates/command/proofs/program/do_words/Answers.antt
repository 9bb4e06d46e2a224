use Rattle.std.proofs.Common.{refl}
use Rattle.clap.specs.Values.{kind_of}
use Rattle.program_io.proofs.Keeping.{keeps_itself}
use Rattle.command.proofs.Ending.{ends_told, without_memory}
use Rattle.command.proofs.program.do_words.Goals as goal

pub returns-in_default-version_text : goal.returns-in_default-version_text
returns-in_default-version_text g c =
    without_memory _ (g.R.Read.remaining c.args.input.now) (g.W.Write.contents c.args.output.now) _ c.in_default.ensures refl

-- the words ask for nothing that the command does
pub returns : goal.returns
returns g c =
    let input = g.R.Read.remaining c.args.input.now in
    ends_told _ input input (g.W.Write.contents c.args.output.now) _ _ (kind_of c.in-Err.error) c.in_default.ensures (keeps_itself input)
    c.in-Err.ensures.faults (record { help = c.tell.ensures.help; memory = c.tell.ensures.memory; refused = c.tell.ensures.refused })
