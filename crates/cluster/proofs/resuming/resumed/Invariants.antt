use Rattle.std.proofs.Common.{[], ◌∷◌, ◌++◌, take}
use Rattle.std.specs.Prelude.{reverse}
use Rattle.grants.specs.declared.slicelet_call.SliceletCall.TheVariants.{Resume}
use Rattle.cluster.specs.internals.Resuming.{IsPlayedTo}
use Rattle.cluster.proofs.resuming.resumed.Given as goal

-- the calls so far are played
abbrev pub invariant-loop-call : goal.invariant-loop-call
invariant-loop-call l = IsPlayedTo l.fn.task (reverse (take l.call-index l.fn.snapshot.calls) ++ Resume l.fn.snapshot.life ∷ []) l.slicelet
