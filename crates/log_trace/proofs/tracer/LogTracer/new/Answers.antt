use Rattle.std.proofs.Common.{◌≡◌, ◌∙◌, ℕ, [], ◌∷◌, refl, sym, ap, subst}
use Rattle.grants.specs.Policies.{Terms}
use Rattle.job_calls.specs.Jobs.{Job}
use Rattle.job_calls.specs.declared.timing.Reading.TheVariants.{TableClock}
use Rattle.cluster.specs.Pasts.{readings}
use Rattle.cluster.specs.Timing.{greatest_reading}
use Rattle.reasons.specs.Placed.{ArePlaces}
use Rattle.reasons.specs.Readings.{IsGreatestOf}
use Rattle.log_run.proofs.Leaving.{same_policy}
use Rattle.log_trace.proofs.Playing.{first_greatest, same_job}
use Rattle.log_trace.proofs.tracer.LogTracer.new.Goals as goal

pub returns : goal.returns
returns c = λ job begins.
    let start = c.args.start.now in
    let earlier = greatest_reading (readings job.earlier) in
    let skew : c.skew-skew.result ≡ job.policy.skew =
    c.skew-skew.ensures ∙ ap (λ (p : Terms). p.skew) (c.policy.ensures ∙ same_policy job start.job start.earlier begins) in
    let tasks : c.tasks.result ≡ job.tasks = c.tasks.ensures.value ∙ ap (λ (j : Job). j.tasks) (sym (same_job job start.job start.earlier begins)) in
    record {
      calls = (refl, refl);
      played = c.in_ok-machines.ensures job begins;
      greatest = subst (λ (n : ℕ). IsGreatestOf n (TableClock earlier ∷ []) c.after.result) skew
          (c.after.ensures (TableClock earlier ∷ []) (c.table_reading.ensures job begins ∙ first_greatest earlier));
      places = subst (λ (many : ℕ). ArePlaces many [] c.in_ok-places.places) tasks c.in_ok-places.ensures;
    }
