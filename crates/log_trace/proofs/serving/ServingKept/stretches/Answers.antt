use Rattle.std.proofs.Common.{subst}
use Rattle.std.specs.Prelude.{Option}
use Rattle.stretches.specs.declared.job_stretches.JobStretches.{JobStretches}
use Rattle.log_trace.specs.internals.Watching.{AreStretchesKept}
use Rattle.log_trace.proofs.Keeping.{no_stretches, stretches_told}
use Rattle.log_trace.proofs.serving.ServingKept.stretches.Goals as goal

pub returns-in_ok-stretches-in-Some : goal.returns-in_ok-stretches-in-Some
returns-in_ok-stretches-in-Some c job past key are =
    stretches_told job past key c.in-Some.kept c.in_ok-stretches-in-Some.stretches.items
    (subst (λ (o : Option JobStretches). AreStretchesKept job past key o) c.in-Some.is are)
    (λ k kept. c.in_ok-stretches-in-Some.ensures job past k kept)

pub returns-in-None : goal.returns-in-None
returns-in-None c job past key are =
    no_stretches job past key (subst (λ (o : Option JobStretches). AreStretchesKept job past key o) c.in-None.is are)
