use Rattle.command.proofs.Ending.{played_of, reads_input}
use Rattle.command.proofs.program.play_script.Goals as goal

pub returns-in-Input : goal.returns-in-Input
returns-in-Input g c =
    let before = g.R.Read.remaining c.args.input.now in
    let after = g.R.Read.remaining c.run_lines-answer.new.reader in
    let held = g.W.Write.contents c.args.output.now in
    let holds = g.W.Write.contents c.run_lines-answer.new.writer in
    let played = played_of c.args.request.text before after held holds c.run_lines-answer.result c.run_lines-answer.ensures.ok c.run_lines-answer.ensures.err in
    reads_input c.args.request before after held holds c.run_lines-answer.result c.ended.result c.in-Input.is played c.ended.ensures
