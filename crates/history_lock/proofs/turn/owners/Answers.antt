use Rattle.std.proofs.Common.{arith, ◌≡◌, ◌+◌, suc, sym, subst}
use Rattle.history_lock.specs.internals.Seats.{AreCopies}
use Rattle.history_lock.proofs.Claimed.{copies_snoc}
use Rattle.history_lock.proofs.turn.owners.Goals as goal

pub loop-done-preserved : goal.loop-done-preserved
loop-done-preserved g c = let m = c.args.machine.now in let done = c.loop-done.done in let is : suc done ≡ done + 1 = omega arith in
    subst (λ n. AreCopies m n c.push.new.self.items) is (subst (AreCopies m (suc done)) (sym c.in_ok-push.ensures.items) (copies_snoc m done c.loop-done.made.items c.in_ok-share.field-0 c.loop-done.invariant c.in_ok-share.ensures))
