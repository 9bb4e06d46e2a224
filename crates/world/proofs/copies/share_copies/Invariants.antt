use Rattle.std.proofs.Common.{◌≡◌, take}
use Rattle.world.proofs.copies.share_copies.Given as goal

abbrev pub invariant-loop-share : goal.invariant-loop-share
invariant-loop-share l = l.copied.items ≡ take l.share-index l.shares
