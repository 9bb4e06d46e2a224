use Rattle.serde_json.specs.View.{view}
use Rattle.reason_values.specs.Lines.{line_text}
use Rattle.log_trace_text.specs.Calls.{told_call_data, warnings_of}
use Rattle.log_trace_text.proofs.Whole.{told_call_whole, written}
use Rattle.log_trace_text.proofs.call.told_call_line.Goals as goal

pub returns : goal.returns
returns c =
    let places = c.args.places.now in
    let entries = c.args.entries.now in
    let entry = c.args.entry.now in
    let line = c.args.line.now in
    let made = rw c.warnings_of.ensures at c.in_ok-value.ensures in
    written c.line_of.result (λ text. text.items) line_text (view c.in_ok-value.value) (told_call_data places entries entry line (warnings_of line))
    made (told_call_whole places entries entry line (warnings_of line)) c.line_of.ensures
