use Rattle.c_calls.proofs.Naming.{named, unnamed}
use Rattle.c_calls.proofs.job.job_of.Goals as goal

pub returns-in-Ok : goal.returns-in-Ok
returns-in-Ok c = named c.args.bytes.now c.in-Ok.text.now c.new.result c.in-Ok.ensures.cases.0 c.in-Ok.ensures.cases.1 c.new.ensures.valid c.new.ensures.value

pub returns-in-Err : goal.returns-in-Err
returns-in-Err c = unnamed c.args.bytes.now c.in-Err.ensures.cases.0
