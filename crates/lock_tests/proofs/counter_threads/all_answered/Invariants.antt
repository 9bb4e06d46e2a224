use Rattle.std.proofs.Common.{All, vec_len}
use Rattle.history_lock.specs.Passes.{IsPassOf, ArePassesOf}
use Rattle.lock_tests.proofs.counter_threads.all_answered.Given as goal

abbrev pub invariant-loop-pass : goal.invariant-loop-pass
invariant-loop-pass l = All (λ both. IsPassOf l._lock both.0) l.done.items × ArePassesOf l._lock l.passes.items

abbrev pub decreases-loop-pass : goal.decreases-loop-pass
decreases-loop-pass l = vec_len l.done
