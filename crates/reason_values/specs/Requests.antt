-- Why a task may serve a key, or may not.
use Rattle.std.specs.Prelude.{List, [], ◌∷◌, ◌++◌, codes, Option, Some, None, option_map}
use Rattle.serde_json.specs.Data.{Data, boolean}
use Rattle.wire.specs.LeaseMembers.{kind_data}
use Rattle.wire.specs.Objects.{list_data, number_data, object_data}
use Rattle.reasons.specs.declared.reason.LeaseValues.{LeaseValues}
use Rattle.reasons.specs.declared.reason.RuleValues.{RuleValues}
use Rattle.reasons.specs.declared.reason.KeyOwners.{KeyOwners}
use Rattle.reasons.specs.declared.reason.RequestReason.{RequestReason}
use Rattle.reason_values.specs.declared.place.LogLine.{LogLine}
use Rattle.reply_values.specs.Values.{large_data}
use Rattle.reason_values.specs.Members.{if_there}
use Rattle.reason_values.specs.Places.{place_data}

-- a lease, with the place of the call in which it was heard, if that call has one
abbrev pub lease_data : List LogLine → LeaseValues → Data
lease_data lines lease = object_data
    ((codes "covers", boolean lease.covers) ∷ (codes "ends", large_data lease.ends) ∷ (codes "generation", large_data lease.generation)
    ∷ if_there (codes "heard") (option_map (place_data lines) lease.heard)
    ++ (codes "kind", kind_data lease.kind) ∷ (codes "number", large_data lease.number) ∷ [])

-- the leases that a task holds, the guard lease first
abbrev pub leases_of : Option LeaseValues → Option LeaseValues → List LeaseValues
leases_of None None = []
leases_of None (Some bridge) = bridge ∷ []
leases_of (Some guard) None = guard ∷ []
leases_of (Some guard) (Some bridge) = guard ∷ bridge ∷ []

-- what the written rule decides by, with the number of the lease by which it answers, if one does
abbrev pub rule_data : List LogLine → RuleValues → Data
rule_data lines rule = object_data
    ((codes "last", large_data rule.last) ∷ (codes "leases", list_data (lease_data lines) (leases_of rule.guard rule.bridge))
    ∷ if_there (codes "number") (option_map large_data rule.number) ++ (codes "started", boolean rule.started) ∷ [])

-- the committed generation, and the owners of the key in it
abbrev pub owners_data : KeyOwners → Data
owners_data owners = object_data
    ((codes "generation", large_data owners.generation) ∷ (codes "tasks", list_data number_data owners.tasks.items) ∷ [])

abbrev pub request_data : List LogLine → RequestReason → Data
request_data lines reason = object_data
    ((codes "owners", owners_data reason.owners) ∷ (codes "rule", rule_data lines reason.rule) ∷ [])
