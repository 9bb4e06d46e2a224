use Rattle.c_calls.proofs.Adding.{unadded}
use Rattle.c_calls.proofs.loads.record_numbers.added.Goals as goal

pub returns-in-Err-clause-refused : goal.returns-in-Err-clause-refused
returns-in-Err-clause-refused c = unadded c.args.task c.args.records.now c.loop-record.record-index _ c.loop-record-test.true c.loop-record.share c.add.new.self _ c.in-Err.why c.requires.weights c.requires.total c.loop-record.invariant c.in-Err.ensures
