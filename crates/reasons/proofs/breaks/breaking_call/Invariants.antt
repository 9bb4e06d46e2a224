use Rattle.std.proofs.Common.{◌≡◌, false}
use Rattle.std.specs.Prelude.{Ok}
use Rattle.slicelet.specs.Continuity.{checked_in}
use Rattle.reasons.specs.Breaking.{taken_after}
use Rattle.reasons.proofs.breaks.breaking_call.Given as goal

abbrev pub invariant-loop-before : goal.invariant-loop-before
invariant-loop-before l = checked_in l.slicelet (taken_after l.before l.handle) l.at ≡ Ok false
