-- The written rule for a slice key, and for a key of the application.
use Rattle.std.specs.Prelude.{ℕ, List, Result}
use Rattle.slice_ranges.specs.Hash.{slice_key}
use Rattle.lease_rule.specs.declared.answer.Ground.{Ground}
use Rattle.lease_rule.specs.declared.answer.Verdict.{Verdict}
use Rattle.grants.specs.declared.slicelet_call.SliceletCall.{SliceletCall}
use Rattle.key_handle.specs.declared.handle.KeyHandle.{KeyHandle}
use Rattle.slicelet.specs.Continuity.{handle_on, held_by}
use Rattle.slicelet.specs.Rules.{covers_key, rule_after}
use Rattle.slicelet.specs.States.{SliceletState, rule_in_state}

-- the written rule for a slice key, and for the key that has it: over what the slicelet knows, and over calls
abbrev pub rule_at : ℕ → SliceletState → ℕ → Verdict
rule_at key s at = rule_in_state (covers_key key) s at

abbrev pub rule_for : List ℕ → SliceletState → ℕ → Verdict
rule_for key s at = rule_at (slice_key key) s at

abbrev pub rule_at_after : ℕ → List SliceletCall → ℕ → Verdict
rule_at_after key calls at = rule_after (covers_key key) calls at

abbrev pub rule_for_after : List ℕ → List SliceletCall → ℕ → Verdict
rule_for_after key calls at = rule_at_after (slice_key key) calls at

-- the handle on a key where the rule allows the key, else the reason
abbrev pub taken_at : Verdict → ℕ → SliceletState → Result KeyHandle Ground
taken_at verdict key s = held_by verdict (handle_on key s)

abbrev pub taken_by : Verdict → List ℕ → SliceletState → Result KeyHandle Ground
taken_by verdict key s = taken_at verdict (slice_key key) s
