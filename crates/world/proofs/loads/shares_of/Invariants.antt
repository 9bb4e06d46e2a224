use Rattle.std.specs.Prelude.{[]}
use Rattle.load_ledger.specs.Shares.{Share}
use Rattle.cluster.specs.Clusters.{AreActors}
use Rattle.world.proofs.loads.shares_of.Given as goal

-- the shares so far
abbrev pub invariant-loop-place : goal.invariant-loop-place
invariant-loop-place l = AreActors (λ n. let s : Share = record { task = n; records = [] } in s) l.place l.shares.items
