use Rattle.snapshot_text.proofs.Unique.{read_as}
use Rattle.snapshot_text.proofs.reading.snapshot_of.Goals as goal

pub returns-clause-same : goal.returns-clause-same
returns-clause-same c s is = read_as c.args.job.now c.args.text.now s c.parts_of.result is c.parts_of.ensures.ok c.parts_of.ensures.err
