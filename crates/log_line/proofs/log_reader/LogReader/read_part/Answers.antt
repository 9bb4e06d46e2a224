use Rattle.std.proofs.Common.{rules, ◌≡◌, true, false, refl}
use Rattle.std.specs.Prelude.{is_some}
use Rattle.log_line.proofs.LineTaking.{all_of_it, fewer, line_more, line_read_to, part_more}
use Rattle.log_line.proofs.log_reader.LogReader.read_part.Goals as goal
use Rattle.log_line.proofs.log_reader.LogReader.read_part.Goals.{then-is_some+in_ok-end_line, else-is_some}

pub returns-clause-read : goal.returns-clause-read
returns-clause-read g c = λ files before known.
    let first = c.first_part-first in
    elim c.if-is_some.branch [
      | then-is_some+in_ok-end_line w ↦
          let some : is_some first.result.rest ≡ true = search rules in
          rw w.self-is
          (line_read_to files before c.args.bytes.now first.result.part.now first.result.rest _ some first.ensures.whole
          (line_more files _ _
          (part_more files before c.args.self.now known _ first.result.part.now first.ensures.unended refl refl refl c.in_ok-extend_from_slice.ensures.items) _ w.in_ok-end_line.ensures))
      | else-is_some w ↦
          let none : is_some first.result.rest ≡ false = search rules in
          rw w.self-is
          (all_of_it files before c.args.bytes.now first.result.part.now first.result.rest _ none first.ensures.whole
          (part_more files before c.args.self.now known _ first.result.part.now first.ensures.unended refl refl refl c.in_ok-extend_from_slice.ensures.items))
    ]

pub returns-clause-shorter : goal.returns-clause-shorter
returns-clause-shorter g c = fewer c.args.bytes.now c.first_part-first.result.part.now c.first_part-first.result.rest c.first_part-first.ensures.whole
