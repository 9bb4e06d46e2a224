use Rattle.std.proofs.Common.{◌∙◌, ℕ, [], ap, refl, subst}
use Rattle.grants.specs.Policies.{Terms}
use Rattle.reasons.specs.Readings.{IsGreatestOf}
use Rattle.script_trace.proofs.tracer.ScriptTracer.new.Goals as goal

pub returns : goal.returns
returns c = record {
  same_job = refl;
  leads = c.in_ok-world.ensures;
  steps = refl;
  greatest = subst (λ (skew : ℕ). IsGreatestOf skew [] c.new-3.result) (c.skew.ensures ∙ ap (λ (p : Terms). p.skew) c.policy.ensures) c.new-3.ensures;
  calls = c.in_ok-calls.ensures;
}
