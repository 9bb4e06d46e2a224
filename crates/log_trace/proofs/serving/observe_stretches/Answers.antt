use Rattle.std.proofs.Common.{◌∷◌, subst, sym}
use Rattle.std.specs.Prelude.{Option}
use Rattle.cluster.specs.Pasts.{event}
use Rattle.stretches.specs.declared.job_stretches.JobStretches.{JobStretches}
use Rattle.log_trace.specs.internals.Watching.{AreStretchesKept}
use Rattle.log_trace.proofs.Keeping.{stretches_observed, stretches_none}
use Rattle.log_trace.proofs.serving.observe_stretches.Goals as goal

pub returns-in-Some : goal.returns-in-Some
returns-in-Some c job past key leads few are =
    let after = event c.args.call.now c.args.answer.now ∷ past in
    let old = c.in-Some.stretches in
    stretches_observed job past after key old c.observe.new.self c.observe.result
    (subst (λ (o : Option JobStretches). AreStretchesKept job past key o) c.in-Some.is are) (λ k kept. c.observe.ensures job past k leads few kept)

pub returns-in-None : goal.returns-in-None
returns-in-None c job past key leads few are =
    let after = event c.args.call.now c.args.answer.now ∷ past in
    let none = stretches_none job past after key (subst (λ (o : Option JobStretches). AreStretchesKept job past key o) c.in-None.is are) in
    subst (λ (o : Option JobStretches). AreStretchesKept job after key o) (sym c.in-None.is) none
