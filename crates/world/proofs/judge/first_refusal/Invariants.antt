use Rattle.std.proofs.Common.{◌≡◌, drop}
use Rattle.world.specs.Judging.{leases_refusal}
use Rattle.world.proofs.judge.first_refusal.Given as goal

-- none of the leases so far is refused
abbrev pub invariant-loop-lease : goal.invariant-loop-lease
invariant-loop-lease l = leases_refusal l.leases ≡ leases_refusal (drop l.lease-index l.leases)
