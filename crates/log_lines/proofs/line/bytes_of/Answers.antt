use Rattle.log_lines.proofs.Written.{says_if_written}
use Rattle.log_lines.proofs.line.bytes_of.Goals as goal

pub returns-clause-says : goal.returns-clause-says
returns-clause-says c = says_if_written c.json_bytes.result (λ bytes. bytes.items) c.args.ticket c.args.call.now c.args.words.now c.line_law.ensures c.json_bytes.ensures
