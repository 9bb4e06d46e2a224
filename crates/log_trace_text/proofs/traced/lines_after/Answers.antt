use Rattle.std.proofs.Common.{◌≡◌, ◌∙◌, List, subst}
use Rattle.reason_values.specs.declared.place.LogLine.{LogLine}
use Rattle.log_trace_text.specs.Endings.{IsEndLine}
use Rattle.log_trace_text.specs.Places.{places_of}
use Rattle.log_trace_text.specs.Texts.{lines_between}
use Rattle.log_trace_text.proofs.Telling.{joined}
use Rattle.log_trace_text.proofs.traced.lines_after.Goals as goal

pub returns : goal.returns
returns c = λ job begins.
    let entries = c.args.entries.now in
    let found = c.args.found.now in
    let body = c.args.body.now in
    let end = c.in_ok-end.end.items in
    let played = c.in_ok-played.played in
    let text = c.in_ok-text.text.items in
    let same : c.as_slice-places.result.now ≡ places_of entries = c.as_slice-places.ensures.value ∙ c.in_ok-places.ensures in
    let told : text ≡ lines_between (places_of entries) entries body.with_calls played =
    subst (λ (places : List LogLine). text ≡ lines_between places entries body.with_calls played) same c.in_ok-text.ensures in
    record {
      played = played;
      plays = c.in_ok-played.ensures job begins;
      last = end;
      ends = subst (λ (places : List LogLine). IsEndLine job c.args.start.now places entries found.finding found.all_sent body.drift end) same
          (c.in_ok-end.ensures job begins);
      lines = joined _ text _ (lines_between (places_of entries) entries body.with_calls played) end told c.as_slice.ensures.value
          c.in_ok-extend_from_slice.ensures.items;
    }
