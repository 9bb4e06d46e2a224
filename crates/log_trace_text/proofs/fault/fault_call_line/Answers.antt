use Rattle.serde_json.specs.View.{view}
use Rattle.log_trace_text.specs.Calls.{no_warnings, told_call_data}
use Rattle.log_trace_text.specs.Faults.{fault_text}
use Rattle.log_trace_text.proofs.Whole.{told_call_whole, written}
use Rattle.log_trace_text.proofs.fault.fault_call_line.Goals as goal

pub returns : goal.returns
returns c =
    let places = c.args.places.now in
    let entries = c.args.entries.now in
    let entry = c.args.entry.now in
    let line = c.args.line.now in
    let told = rw c.as_str.ensures at c.fault_text.ensures in
    let made = rw c.no_warnings.ensures at c.in_ok-value.ensures in
    written c.fault_text.result (λ text. text.items) (fault_text entry.line.reply) (view c.in_ok-value.value) (told_call_data places entries entry line no_warnings)
    made (told_call_whole places entries entry line no_warnings) told
