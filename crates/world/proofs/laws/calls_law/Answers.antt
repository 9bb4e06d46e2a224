use Rattle.world.proofs.Running.{calls_run}
use Rattle.world.proofs.Timing.{timely_calls}
use Rattle.world.proofs.laws.calls_law.Goals as goal

pub returns-clause-run : goal.returns-clause-run
returns-clause-run c = λ job past run. calls_run job past run

pub returns-clause-timely : goal.returns-clause-timely
returns-clause-timely c = λ job skew past timely. timely_calls skew job past timely
