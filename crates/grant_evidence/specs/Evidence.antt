-- What a grant tells of the clocks when it is heard.
use Rattle.std.specs.Prelude.{ℕ, ◌+◌, ◌-◌, ◌<◌}
use Rattle.lease_rule.specs.declared.lease.Kind.{Kind}
use Rattle.lease_rule.specs.declared.lease.Kind.TheVariants.{Guard, Bridge}
use Rattle.grants.specs.declared.values.Grant.{Grant}
use Rattle.grants.specs.Policies.{Terms}

-- the term of the leases of a kind, in ticks
abbrev pub term_of : Terms → Kind → ℕ
term_of policy Guard = policy.guard
term_of policy Bridge = policy.bridge

-- the table's reading when it sent a grant: the end of its row, less the term
abbrev pub sent_at : Terms → Grant → ℕ
sent_at policy grant = grant.table_ends - term_of policy grant.lease.kind

-- the grant was sent at a reading of the table's clock that is more than the skew above this
-- reading of a task's
abbrev pub IsAhead : Terms → Grant → ℕ → Type 0
IsAhead policy grant at = at + policy.skew < sent_at policy grant
