use Rattle.log_causes.proofs.Telling.{NoneTold}
use Rattle.log_causes.proofs.missing.are_told.Given as goal

-- no entry so far tells one
abbrev pub invariant-loop-index : goal.invariant-loop-index
invariant-loop-index l = NoneTold l.grants l.entries l.index
