use Rattle.std.proofs.Common.{◌∙◌, ℕ, List, ◌∷◌, take, refl, sym, ap, subst}
use Rattle.job_calls.specs.declared.timing.Reading.{Reading}
use Rattle.cluster.specs.Pasts.{readings, standing}
use Rattle.cluster.specs.Timing.{greatest_reading}
use Rattle.reasons.specs.Readings.{IsGreatestOf}
use Rattle.log_line.specs.Told.{is_worded}
use Rattle.log_run.proofs.Places.{at_place}
use Rattle.log_run.proofs.Watching as watching
use Rattle.log_trace.specs.Lines.{IsUntimelyAt, readings_before}
use Rattle.log_trace.proofs.Playing.{calls_more}
use Rattle.log_trace.proofs.tracer.LogTracer.next.Goals as goal

pub returns : goal.returns
returns c = λ job past placed begins takings t.
    let entries = c.args.entries.now in
    let index = c.args.index in
    let entry = c.index-entries-index.result in
    let here = c.index-entries-index.is in
    let call = entry.line.call in
    let made = c.in_ok-made.ensures job past placed t.played t.places in
    let leads = c.cluster.ensures job past t.played in
    let before = readings_before job (take index entries) in
    record {
      entry = entry;
      here = at_place entries index entry c.requires here;
      after = made.after;
      placed_after = made.placed_after;
      tells = record {
        place = refl;
        stands = made.stands;
        told = c.in_ok-is_told.ensures ∙ ap (λ (words : List ℕ). is_worded words c.in_ok-made.made.reply) c.as_str.ensures;
        reason = made.reason;
        first_taking = c.in_ok-first_taking.ensures job entries index begins takings refl;
        unsent = c.in_ok-unsent.ensures job made.after (c.cluster-2.ensures job made.after made.played);
        untimely = subst (λ (r : Reading). IsUntimelyAt job.policy.skew r before c.untimely-untimely.result) c.reading.ensures
            (c.untimely-untimely.ensures job.policy.skew before t.greatest);
        not_owner = c.not_owner_of-not_owner.ensures (standing job.policy past) call (c.foreign_in-foreign.ensures job past leads);
      };
      at = made.at;
      tracing = record {
        calls = calls_more entries index entry c.requires here job past made.after placed made.placed_after made.at _ made.stands t.calls;
        played = made.played;
        greatest = subst (λ (rs : List Reading). IsGreatestOf job.policy.skew rs c.read.new.self)
            (sym (watching.one_more job.policy.skew (greatest_reading (readings job.earlier)) entries index entry c.requires here))
            (subst (λ (r : Reading). IsGreatestOf job.policy.skew (r ∷ before) c.read.new.self) c.reading-2.ensures
            (c.read.ensures job.policy.skew before t.greatest));
        places = made.places;
      };
    }
