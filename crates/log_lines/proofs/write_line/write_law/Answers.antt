use Rattle.std.proofs.Common.{arith}
use Rattle.log_lines.proofs.WriteLines.{read_back}
use Rattle.log_lines.proofs.write_line.write_law.Goals as goal

pub returns : goal.returns
returns c =
    read_back c.args.write.now (omega (arith, c.value-key.ensures.value, c.value-key.ensures.in_range))
    (c.token_text_law.ensures c.args.write.now.token (record { epoch = omega arith; generation = omega arith; life = omega arith }))
