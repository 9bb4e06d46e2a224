use Rattle.std.proofs.Common.{◌∙◌, sym, ap}
use Rattle.reasons.specs.Values.{answering_lease, number_of}
use Rattle.reasons.specs.declared.reason.RuleValues.{RuleValues}
use Rattle.reasons.proofs.Rules.{rules_alike}
use Rattle.reasons.proofs.rule.rule_values.Goals as goal

pub returns-clause-values : goal.returns-clause-values
returns-clause-values c =
    let s = c.args.slicelet.now in
    let guard = c.lease_values-guard.result in
    let bridge = c.lease_values-bridge.result in
    let values : RuleValues = record { started = c.is_up.result; last = c.last_reading.result; guard = guard; bridge = bridge; number = c.number_of.result } in
    let rules = rules_alike s c.args.key c.args.at c.args.heard.guard c.args.heard.bridge values c.is_up.ensures c.last_reading.ensures c.lease_values-guard.ensures
    c.lease_values-bridge.ensures in
    let verdict = c.serve-verdict.ensures.state ∙ sym rules in
    record {
      started = c.is_up.ensures;
      last = c.last_reading.ensures;
      guard = c.lease_values-guard.ensures;
      bridge = c.lease_values-bridge.ensures;
      number = c.number_of.ensures ∙ ap number_of (c.answering_lease-answering.ensures ∙ ap (answering_lease guard bridge c.args.at) verdict);
    }
