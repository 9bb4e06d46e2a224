use Rattle.std.specs.Prelude.{All, take}
use Rattle.audit.specs.OneRun.{Rises, ticket_of}
use Rattle.audit.proofs.points.falls.Given as goal

-- the histories so far rise
abbrev pub invariant-loop-history : goal.invariant-loop-history
invariant-loop-history g l = All (λ h. Rises ticket_of h) (take l.history-index l.histories)
