use Rattle.std.proofs.Common.{◌≤◌}
use Rattle.history_lock.specs.Passes.{IsPassOf}
use Rattle.lock_tests.proofs.counter_threads.read_and_write.Given as goal

abbrev pub invariant-loop : goal.invariant-loop
invariant-loop g l = IsPassOf l.lock l.pass × (l.answered ≤ l.counter)
