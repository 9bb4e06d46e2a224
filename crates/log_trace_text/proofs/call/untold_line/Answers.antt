use Rattle.serde_json.specs.View.{view}
use Rattle.reason_values.specs.Lines.{line_text}
use Rattle.log_trace_text.specs.Calls.{untold_call_data}
use Rattle.log_trace_text.proofs.Whole.{untold_call_whole, written}
use Rattle.log_trace_text.proofs.call.untold_line.Goals as goal

pub returns : goal.returns
returns c =
    let places = c.args.places.now in
    let entry = c.args.entry.now in
    written c.line_of.result (λ text. text.items) line_text (view c.in_ok-value.value) (untold_call_data places c.args.call entry)
    c.in_ok-value.ensures (untold_call_whole places c.args.call entry) c.line_of.ensures
