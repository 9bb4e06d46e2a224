use Rattle.serde_json.specs.View.{view}
use Rattle.trace_text.specs.Calls.{call_data}
use Rattle.trace_text.proofs.Whole.{call_whole, written}
use Rattle.trace_text.proofs.call.call_line.Goals as goal

pub returns : goal.returns
returns c =
    let step = c.args.step.now in
    let line = c.args.line.now in
    written c.line_of.result (λ text. text.items) (view c.in_ok-value.value) (call_data step line) c.in_ok-value.ensures (call_whole step line) c.line_of.ensures
