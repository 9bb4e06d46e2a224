use Rattle.std.proofs.Common.{◌≡◌, List, map, option_map, refl, subst}
use Rattle.log_line.specs.declared.entry.LinePosition.{LinePosition}
use Rattle.log_line.specs.declared.entry.LogEntry.{LogEntry}
use Rattle.log_trace_text.specs.Traces.{AreLinesAfter, head_text}
use Rattle.log_trace_text.proofs.Telling.{joined}
use Rattle.log_trace_text.proofs.traced.traced_log.Goals as goal

pub returns : goal.returns
returns g c = λ job begins.
    let log = c.args.log in
    let options = c.args.options in
    let names = map (λ n. n.now) c.args.names.now in
    let key = option_map (λ k. k.now) options.key in
    let found = c.in_ok-found.found in
    let text = c.in_ok-text.text.items in
    let after = c.in_ok-lines.lines.items in
    let head : text ≡ head_text log.job names log.torn.items options.slice_key key =
    subst (λ (torn : List LinePosition). text ≡ head_text log.job names torn options.slice_key key) c.as_slice.ensures.value c.in_ok-text.ensures in
    record {
      ordered = c.find_calls.new.entries.items;
      same = c.find_calls.ensures.same;
      stable = c.find_calls.ensures.stable;
      found = found;
      judged = c.in_ok-found.ensures.found job begins;
      sent = c.in_ok-found.ensures.sent job begins;
      one = c.is_one-is_one.ensures;
      torn = refl;
      after = after;
      tells = subst (λ (entries : List LogEntry). AreLinesAfter job (record { job = log.job; earlier = c.args.earlier }) entries found options.slice_key
          options.with_calls options.drift after) c.as_slice-entries.ensures.value (c.in_ok-lines.ensures job begins);
      text = joined _ text _ (head_text log.job names log.torn.items options.slice_key key) after head c.as_slice-2.ensures.value
          c.in_ok-extend_from_slice.ensures.items;
    }
