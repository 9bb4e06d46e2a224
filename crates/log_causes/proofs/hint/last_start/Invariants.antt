use Rattle.std.proofs.Common.{◌≡◌, ◌<◌, take}
use Rattle.std.specs.Prelude.{IfSome}
use Rattle.log_causes.specs.Hints.{last_start}
use Rattle.log_causes.proofs.hint.last_start.Given as goal

-- the last start so far
abbrev pub invariant-loop-index : goal.invariant-loop-index
invariant-loop-index l = record {
  value : l.last ≡ last_start l.task (take l.index l.entries);
  within : IfSome l.last (λ place. place < l.index);
}
