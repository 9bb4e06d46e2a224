use Rattle.serde_json.specs.View.{view}
use Rattle.wire.proofs.Decoding.{all_three}
use Rattle.log_lines.proofs.WriteLines.{as_write_text, says_write}
use Rattle.log_lines.proofs.write_line.bytes_of.Goals as goal

pub returns-clause-text : goal.returns-clause-text
returns-clause-text c =
    as_write_text c.to_vec.result (λ bytes. bytes.items) c.args.write.now (view c.in_ok-line.line) c.in_ok-line.ensures c.to_vec.ensures.text

pub returns-clause-says : goal.returns-clause-says
returns-clause-says c =
    all_three c.to_vec.result _ _ _ _
    (λ bytes utf8 reads order. says_write c.args.write.now (view c.in_ok-line.line) bytes.items c.write_law.ensures c.in_ok-line.ensures utf8 reads order)
    c.to_vec.ensures.utf8 c.to_vec.ensures.reads_back c.to_vec.ensures.order
