use Rattle.std.proofs.Common.{◌≡◌, ◌+◌, ◌≤◌, length}
use Rattle.history_lock.specs.Passes.{IsPassOf}
use Rattle.lock_tests.proofs.counter_threads.add.Given as goal

abbrev pub invariant-loop : goal.invariant-loop
invariant-loop g l = IsPassOf l.lock l.pass × (length l.pass.mine ≡ length l.initial.pass.mine + l.answered) × (l.answered ≤ l.counter)
