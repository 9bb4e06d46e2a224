use Rattle.log_line.proofs.LineTaking.{all_read}
use Rattle.log_line.proofs.log_reader.LogReader.finish.Goals as goal

pub returns-clause-ok : goal.returns-clause-ok
returns-clause-ok c = λ files known. c.finish.ensures.ok _ (all_read files c.args.self known)

pub returns-clause-err : goal.returns-clause-err
returns-clause-err c = λ files known. c.finish.ensures.err _ (all_read files c.args.self known)
