use Rattle.std.proofs.Common.{arith}
use Rattle.std.proofs.lemmas.Str.{IsUtf8-string_bytes}
use Rattle.log_lines.proofs.PlainLines.{key_json}
use Rattle.log_lines.proofs.plain_line.key_line.Goals as goal

pub returns : goal.returns
returns c =
    key_json c.args.name.now c.args.ticket c.args.task c.args.key c.args.at c.args.reply.now c.value-key.result _ _ _ c.requires.name c.requires.reply (omega arith) (omega arith)
    (omega (arith, c.value-key.ensures.value, c.value-key.ensures.in_range)) (omega arith) (IsUtf8-string_bytes c.end_line.new.line) c.value-key.ensures.value
    c.in_ok-line.ensures.bytes c.in_ok-write.ensures.bytes c.in_ok-end_line.ensures
