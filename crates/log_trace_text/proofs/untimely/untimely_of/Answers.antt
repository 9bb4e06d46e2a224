use Rattle.std.proofs.Common.{◌≡◌, ◌∙◌, ℕ, ap}
use Rattle.grants.specs.Policies.{Terms}
use Rattle.log_run.proofs.Leaving.{same_policy}
use Rattle.log_trace_text.proofs.Telling.{untimely_told}
use Rattle.log_trace_text.proofs.untimely.untimely_of.Goals as goal

pub returns : goal.returns
returns c = λ job begins.
    let start = c.args.start.now in
    let skew : c.skew-skew.result ≡ job.policy.skew =
    c.skew-skew.ensures ∙ ap (λ (p : Terms). p.skew) (c.policy.ensures ∙ same_policy job start.job start.earlier begins) in
    untimely_told job c.args.entries.now c.skew-skew.result c.table_reading-earlier.result c.as_slice.result.now c.first_untimely.result skew
    (c.table_reading-earlier.ensures job begins) (c.as_slice.ensures.value ∙ c.in_ok-readings.ensures) c.first_untimely.ensures
