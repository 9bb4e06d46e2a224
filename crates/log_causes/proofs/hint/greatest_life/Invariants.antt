use Rattle.std.proofs.Common.{◌≡◌, take}
use Rattle.log_causes.specs.Hints.{greatest_life}
use Rattle.log_causes.proofs.hint.greatest_life.Given as goal

-- the greatest life so far
abbrev pub invariant-loop-index : goal.invariant-loop-index
invariant-loop-index l = l.greatest ≡ greatest_life l.task (take l.index l.entries)
