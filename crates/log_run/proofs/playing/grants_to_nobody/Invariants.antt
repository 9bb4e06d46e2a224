use Rattle.cluster.specs.continued.Jobs.{Continued}
use Rattle.cluster.specs.Pasts.{Past}
use Rattle.log_run.specs.internals.Answers.{HasGranted}
use Rattle.log_run.specs.internals.Machines.{HavePlayed}
use Rattle.log_run.proofs.playing.grants_to_nobody.Given as goal

-- so many grants were made
abbrev pub invariant-loop : goal.invariant-loop
invariant-loop l = (job : Continued) (past : Past) → HavePlayed job past l.initial.machines → HasGranted job past l.counter l.at l.machines
