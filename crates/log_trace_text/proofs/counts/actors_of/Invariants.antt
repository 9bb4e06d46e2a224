use Rattle.std.proofs.Common.{◌≡◌, map, take}
use Rattle.log_trace_text.specs.Endings.{actor_of}
use Rattle.log_trace_text.proofs.counts.actors_of.Given as goal

abbrev pub invariant-loop-one : goal.invariant-loop-one
invariant-loop-one l = l.actors.items ≡ map actor_of (take l.one-index l.taken)
