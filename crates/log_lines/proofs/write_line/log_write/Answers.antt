use Rattle.std.proofs.Common.{◌∙◌, sym}
use Rattle.c_calls.specs.Outputs.{output}
use Rattle.log_lines.proofs.WriteLines.{write_given}
use Rattle.log_lines.proofs.write_line.log_write.Goals as goal

pub returns : goal.returns
returns c = λ token fits same.
    write_given c.line_of.result (λ text. text.items) _ c.in-Some.write (output c.args.out.now c.args.needed.now)
    (output c.give_made.new.out c.give_made.new.needed) c.give_made.result (sym (c.write.ensures token fits same) ∙ c.in-Some.is) c.line_of.ensures c.give_made.ensures.made c.give_made.ensures.memory
