use Rattle.std.proofs.Common.{◌≡◌, drop, None}
use Rattle.std.specs.Prelude.{option_map}
use Rattle.lease_rule.specs.declared.lease.Kind.TheVariants.{Guard, Bridge}
use Rattle.lease_rule.specs.Leases.{seen_from}
use Rattle.world.specs.Judging.{leases_refusal, held_after}
use Rattle.world.proofs.judge.judge.Given as goal

-- the leases so far are held and none of them is refused
abbrev pub invariant-loop-lease : goal.invariant-loop-lease
invariant-loop-lease l = record {
  up : l.holding.up ≡ l.question.up;
  last : l.holding.last ≡ l.question.last;
  refusal : leases_refusal l.question.leases ≡ leases_refusal (drop l.lease-index l.question.leases);
  guard : held_after l.key Guard None l.question.leases ≡ held_after l.key Guard (option_map (seen_from l.key) l.holding.guard) (drop l.lease-index l.question.leases);
  bridge : held_after l.key Bridge None l.question.leases ≡ held_after l.key Bridge (option_map (seen_from l.key) l.holding.bridge) (drop l.lease-index l.question.leases);
}
