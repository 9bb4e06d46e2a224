-- The rule over the values of a task.
use Rattle.std.proofs.Common.{◌≡◌, ◌∙◌, ℕ, refl, ap}
use Rattle.std.specs.Prelude.{Option, Some, None, option_map}
use Rattle.lease_rule.specs.declared.lease.Kind.{Kind}
use Rattle.lease_rule.specs.declared.lease.Kind.TheVariants.{Guard, Bridge}
use Rattle.lease_rule.specs.Rule.{SeenHolding}
use Rattle.grants.specs.declared.values.Grant.{Grant}
use Rattle.slicelet.specs.Rules.{seen_by, covers_key}
use Rattle.slicelet.specs.States.{SliceletState, rule_in_state}
use Rattle.reasons.specs.declared.reason.RuleValues.{RuleValues}
use Rattle.reasons.specs.Values.{lease_values, seen_as, rule_by}

seen_alike : (kind : Kind) (key : ℕ) (heard : Option ℕ) (o : Option Grant) → option_map seen_as (option_map (lease_values kind key heard) o) ≡ option_map (seen_by (covers_key key)) o
seen_alike kind key heard None = refl
seen_alike kind key heard (Some grant) = refl

pub rules_alike : (s : SliceletState) (key at : ℕ) (guard_heard bridge_heard : Option ℕ) (values : RuleValues) → values.started ≡ s.up → values.last ≡ s.last
    → values.guard ≡ option_map (lease_values Guard key guard_heard) s.guard → values.bridge ≡ option_map (lease_values Bridge key bridge_heard) s.bridge
    → rule_by values at ≡ rule_in_state (covers_key key) s at
rules_alike s key at guard_heard bridge_heard values up last guard bridge =
    let a : option_map seen_as values.guard ≡ option_map (seen_by (covers_key key)) s.guard = ap (option_map seen_as) guard ∙ seen_alike Guard key guard_heard s.guard in
    let b : option_map seen_as values.bridge ≡ option_map (seen_by (covers_key key)) s.bridge = ap (option_map seen_as) bridge ∙ seen_alike Bridge key bridge_heard s.bridge in
    let h : SeenHolding = record { up = s.up; last = s.last; guard = option_map (seen_by (covers_key key)) s.guard; bridge = option_map (seen_by (covers_key key)) s.bridge } in
    rw (up, last, a, b) (refl)
