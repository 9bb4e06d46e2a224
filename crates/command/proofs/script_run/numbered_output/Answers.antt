use Rattle.std.proofs.Common.{◌≡◌, true, string_bytes, subst}
use Rattle.grants.specs.Policies.{Terms, is_policy}
use Rattle.command.proofs.Outputs.{is_output}
use Rattle.command.proofs.script_run.numbered_output.Goals as goal

pub returns : goal.returns
returns c =
    is_output c.args.script.now c.as_slice-steps.result.now c.in_ok-replies.replies.items c.as_slice.result.now c.is_timely.result
    (string_bytes c.in_ok-text.text) (subst (λ (p : Terms). is_policy p ≡ true) c.policy.ensures c.policy_law.ensures) c.as_slice-steps.ensures c.as_slice.ensures.value
    c.in_ok-replies.ensures.many c.in_ok-replies.ensures.run c.in_ok-text.ensures.answers c.is_timely.ensures c.in_ok-text.ensures.text
