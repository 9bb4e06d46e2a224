-- Which token a task has for a key, and which leases it may give up.
use Rattle.std.specs.Prelude.{ℕ, Bool, true, false, nat_lt, nat_le, Option, Some, None, unwrap_or, Result, Ok, Err, if◌then◌else◌}
use Rattle.lease_rule.specs.declared.lease.Kind.{Kind}
use Rattle.lease_rule.specs.declared.lease.Kind.TheVariants.{Guard, Bridge}
use Rattle.lease_rule.specs.declared.answer.Verdict.{Verdict}
use Rattle.lease_rule.specs.declared.answer.Verdict.TheVariants.{Allow, Deny}
use Rattle.lease_rule.specs.Rule.{SeenHolding, newest_covering, rule}
use Rattle.grants.specs.declared.values.Grant.{Grant}
use Rattle.slicelet.specs.declared.next_action.TaskAction.{TaskAction}
use Rattle.slicelet.specs.declared.next_action.TaskAction.TheVariants.{GiveUp, Rest}
use Rattle.slicelet.specs.States.{SliceletState, holding_in}
use Rattle.fence.specs.declared.token.Token.{Token}
use Rattle.fence.specs.declared.giving.NoToken.{NoToken}
use Rattle.fence.specs.declared.giving.NoToken.TheVariants.{ManyOwners, Denied}

-- THE TOKEN

-- the token of an epoch, a generation and a life
abbrev pub token_with : ℕ → ℕ → ℕ → Token
token_with epoch generation life = record { epoch = epoch; generation = generation; life = life }

-- the token where the key may be served; the lease that allows the key covers it, so there always is a greatest generation
abbrev pub token_by : Verdict → ℕ → ℕ → Option ℕ → Result Token NoToken
token_by (Allow kind generation) epoch life newest = Ok (token_with epoch (unwrap_or newest generation) life)
token_by (Deny why) epoch life newest = Err (Denied why)

-- the token where the leases are seen so from the key, and a slice has at most so many owners
abbrev pub token_seen : ℕ → ℕ → ℕ → SeenHolding → ℕ → Result Token NoToken
token_seen most epoch life h at = if nat_lt 1 most then Err ManyOwners else token_by (rule h at) epoch life (newest_covering h)

-- the token of a task for a key at a reading, for what a lease covers
abbrev pub token_in : ℕ → (Grant → Bool) → ℕ → SliceletState → ℕ → Result Token NoToken
token_in most covers epoch s at = token_seen most epoch s.life (holding_in covers s) at

-- LEASES THAT A TASK MAY GIVE UP

-- a guard lease, if one is held, is of the generation of a bridge lease or a later one
abbrev pub is_reached : ℕ → Option Grant → Bool
is_reached generation None = false
is_reached generation (Some guard) = nat_le generation guard.lease.generation

abbrev pub is_superseded : Option Grant → Option Grant → Bool
is_superseded guard None = true
is_superseded guard (Some bridge) = is_reached bridge.lease.generation guard

-- a task may give up its lease of a kind: a guard lease always, a bridge lease while it holds a guard lease of its generation or a later one
abbrev pub may_give_up : SliceletState → Kind → Bool
may_give_up s Guard = true
may_give_up s Bridge = is_superseded s.guard s.bridge

-- what a task does next, where it gives up no lease that it must keep
abbrev pub carefully : SliceletState → TaskAction → TaskAction
carefully s (GiveUp kind) = if may_give_up s kind then GiveUp kind else Rest
carefully s action = action
