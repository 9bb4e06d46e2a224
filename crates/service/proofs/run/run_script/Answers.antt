use Rattle.std.proofs.lemmas.Result.{err_from_is_err_and}
use Rattle.program_io.specs.Streams.{ReadsAll}
use Rattle.program_io.proofs.Failing.{fails_unread}
use Rattle.service.specs.Output.{IsOutput}
use Rattle.service.specs.Service.{SaysShown, IsRefusedFor}
use Rattle.service.proofs.run.run_script.Goals as goal

pub returns-in_err-script-clause-err : goal.returns-in_err-script-clause-err
returns-in_err-script-clause-err g c =
    let p = err_from_is_err_and c.from_residual-in_err-script.result c.from_residual-in_err-script.ensures.1 in
    let reads : ReadsAll (g.R.Read.remaining c.args.reader.now) (g.R.Read.remaining c.read_all.new.reader) c.as_slice.result.now = rw c.as_slice.ensures.value c.in_ok-bytes.ensures in
    rw (p.1, p.2) (fails_unread (SaysShown IsOutput) IsRefusedFor (g.R.Read.remaining c.args.reader.now) (g.R.Read.remaining c.read_all.new.reader) (g.W.Write.contents c.args.writer.now) c.as_slice.result.now c.in_err-script.field-0.0 reads c.in_err-script.ensures.err)
