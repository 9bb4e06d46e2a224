use Rattle.std.specs.Io.Buffered.{reader_remaining}
use Rattle.command.proofs.Ending.{played_of}
use Rattle.command.proofs.program.play_file.Goals as goal

pub returns-in-Ok : goal.returns-in-Ok
returns-in-Ok g c =
    let full = reader_remaining g.F.Read.remaining c.in-Ok.reader in
    let rest = reader_remaining g.F.Read.remaining c.run_lines.new.reader in
    let held = g.W.Write.contents c.args.writer.now in
    let holds = g.W.Write.contents c.run_lines.new.writer in
    (full, rest, played_of c.args.text full rest held holds c.run_lines.result c.run_lines.ensures.ok c.run_lines.ensures.err)
