use Rattle.std.proofs.Common.{List, sym, subst}
use Rattle.cluster.specs.ActorLists.{AreActors}
use Rattle.stretches.specs.declared.breaks.GivenHandle.{GivenHandle}
use Rattle.stretches.proofs.Tasks.{when_ok}
use Rattle.log_trace.specs.Serving.{given_by}
use Rattle.log_trace.proofs.serving.ServingKept.observe.Goals as goal

pub returns : goal.returns
returns c job key past leads few numbered kept =
    let watched = c.observe.ensures.breaks job past leads few kept.handles.breaks in
    let given = subst (λ (all : List (List GivenHandle)). AreActors (given_by past) job.tasks all) (sym c.observe.ensures.named) kept.handles.given in
    let stretches = c.in_ok-observe_stretches.ensures job past key leads few kept.stretches in
    when_ok c.give.result (c.give.ensures job past leads numbered watched given) (λ handles. record { stretches = stretches; handles = handles })
