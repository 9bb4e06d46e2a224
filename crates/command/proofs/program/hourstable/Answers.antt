use Rattle.std.specs.Process.{exit_status}
use Rattle.std.specs.Io.Buffered.{reader_remaining}
use Rattle.command.proofs.Ending.{ends_buffered, ends_unread}
use Rattle.command.proofs.program.hourstable.Goals as goal

pub returns-in_default : goal.returns-in_default
returns-in_default g c = ends_unread (g.R.Read.remaining c.args.input) (g.W.Write.contents c.args.output.now) (exit_status c.from.result) c.from.ensures

pub returns-in-Ok-new : goal.returns-in-Ok-new
returns-in-Ok-new g c =
    let held = g.W.Write.contents c.args.output.now in
    let holds = g.W.Write.contents c.do_words-status.new.output in
    rw c.from-in-Ok-new.ensures
    (ends_buffered _ g.R.Read.remaining c.in-Ok-new.input c.args.input (reader_remaining g.R.Read.remaining c.do_words-status.new.input) held holds c.do_words-status.result
    c.in-Ok-new.ensures.inner c.in-Ok-new.ensures.empty c.in-Ok-new.ensures.capacity c.do_words-status.ensures)

pub returns : goal.returns
returns g c = ends_unread (g.R.Read.remaining c.args.input) (g.W.Write.contents c.args.output.now) (exit_status c.from-in-Err-new.result) c.from-in-Err-new.ensures
