use Rattle.std.proofs.Common.{[], ℕ, List, map, take}
use Rattle.log_line.specs.Readers.{IsReading}
use Rattle.command.specs.Audits.{AreLogsTaken}
use Rattle.command.proofs.log_audit.read_logs.Given as goal

-- the logs so far were read
abbrev pub invariant-loop-name : goal.invariant-loop-name
invariant-loop-name g l = (front : List (List ℕ)) → IsReading front [] l.fn.log
    → AreLogsTaken front (map (λ n. n.now) (take l.name-index l.names)) (g.R.Read.remaining l.initial.input) (g.R.Read.remaining l.input) l.log
