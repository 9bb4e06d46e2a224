use Rattle.log_lines.proofs.Giving.{line_given}
use Rattle.log_lines.proofs.line.give_line.Goals as goal
use Rattle.c_calls.specs.Outputs.{output}
use Rattle.std.proofs.Common.{◌∙◌, sym}

pub returns : goal.returns
returns c =
    line_given c.line_of.result (λ text. text.items) c.args.numbers.now _ c.in-Some.logged (output c.args.out.now c.args.needed.now)
    (output c.give_made.new.out c.give_made.new.needed) c.give_made.result (sym c.logged_in.ensures ∙ c.in-Some.is) c.line_of.ensures c.give_made.ensures.made c.give_made.ensures.memory
