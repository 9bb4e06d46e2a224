use Rattle.std.proofs.Common.{◌≡◌, take}
use Rattle.cluster.proofs.cluster_copy.slicelet_copies.Given as goal

-- the copies so far
abbrev pub invariant-loop-slicelet : goal.invariant-loop-slicelet
invariant-loop-slicelet l = l.copies.items ≡ take l.slicelet-index l.slicelets
