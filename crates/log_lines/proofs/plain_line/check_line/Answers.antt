use Rattle.std.proofs.Common.{arith}
use Rattle.std.proofs.lemmas.Str.{IsUtf8-string_bytes}
use Rattle.log_lines.proofs.PlainLines.{check_json}
use Rattle.log_lines.proofs.plain_line.check_line.Goals as goal

pub returns : goal.returns
returns c =
    check_json c.args.ticket c.args.task c.args.handle.now c.args.at c.args.reply.now (omega arith) (omega arith) (omega arith) (omega arith)
    (omega (arith, c.value-key.ensures.value, c.value-key.ensures.in_range)) (omega (arith, c.number-owner.ensures.value, c.number-owner.ensures.high)) (omega arith)
    c.value-key.result c.number-owner.result _ _ _ _ c.requires (IsUtf8-string_bytes c.end_line.new.line) c.value-key.ensures.value c.number-owner.ensures.value
    c.in_ok-line.ensures.bytes c.in_ok-write.ensures.bytes c.in_ok-write-2.ensures.bytes c.in_ok-end_line.ensures
