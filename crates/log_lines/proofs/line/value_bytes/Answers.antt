use Rattle.serde_json.specs.View.{view}
use Rattle.log_lines.proofs.Written.{of_value}
use Rattle.log_lines.proofs.line.value_bytes.Goals as goal

pub returns : goal.returns
returns c =
    of_value c.to_vec.result (λ bytes. bytes.items) c.args.ticket c.args.call.now c.args.words.now (view c.in_ok-line.line) c.in_ok-line.ensures c.to_vec.ensures.text
    c.to_vec.ensures.utf8 c.to_vec.ensures.order c.to_vec.ensures.reads_back
