use Rattle.std.proofs.Common.{subst}
use Rattle.world.specs.Runs.{IsRun}
use Rattle.world.proofs.Ruling.{run_before}
use Rattle.service.specs.Output.{past_of}
use Rattle.service.proofs.Printing.{timely_told}
use Rattle.service.proofs.laws.printed_law.Goals as goal

pub returns-clause-owner : goal.returns-clause-owner
returns-clause-owner c = λ script text output later past task key whole may.
    c.owner_law.ensures.owner script.job past task key output.within (run_before script.job later past (subst (IsRun script.job) whole output.run)) may

pub returns-clause-one : goal.returns-clause-one
returns-clause-one c = λ script text output later past task other key whole single may also.
    c.owner_law.ensures.one script.job past task other key output.within single (run_before script.job later past (subst (IsRun script.job) whole output.run)) may also

pub returns-clause-held : goal.returns-clause-held
returns-clause-held c = λ script text output past task key timely held.
    c.interval_law.ensures.owner script.job (past_of script output.replies) past task key output.within output.run (timely_told script text output timely) held

pub returns-clause-alone : goal.returns-clause-alone
returns-clause-alone c = λ script text output past task other key timely single held may.
    c.interval_law.ensures.alone script.job (past_of script output.replies) past task other key output.within single output.run (timely_told script text output timely) held may
