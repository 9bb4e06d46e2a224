use Rattle.job_clocks.proofs.Timing.{timely_job}
use Rattle.job_clocks.proofs.laws.timely_job_law.Goals as goal

pub returns : goal.returns
returns c = timely_job c.timely_law.ensures
