use Rattle.std.proofs.Common.{rules, ◌≡◌, ◌+◌, [], length, refl, arith}
use Rattle.log_line.proofs.LineTaking.{file_ends_in, file_ends_whole, no_bytes}
use Rattle.log_line.proofs.log_reader.LogReader.end_file.Goals as goal
use Rattle.log_line.proofs.log_reader.LogReader.end_file.Goals.{then-not-is_empty+in_ok-end_line, else-not-is_empty}

pub returns : goal.returns
returns g c = λ files bytes known.
    let next : c.in_ok-reader.field-0 ≡ c.if-not-is_empty.reader.file + 1 = search rules in
    elim c.if-not-is_empty.branch [
      | then-not-is_empty+in_ok-end_line w ↦
          let some : c.args.self.part.items ≡ [] → ⊥ = λ none. search rules in
          file_ends_in files bytes c.args.self known _ _ w.in_ok-end_line.ensures (rw w.reader-is at next) refl (rw w.reader-is refl) (rw w.reader-is refl) some
      | else-not-is_empty w ↦
          let none : length c.args.self.part.items ≡ 0 = grind arith in
          file_ends_whole files bytes c.args.self known _ (no_bytes c.args.self.part.items none) (rw w.reader-is at next) refl (rw w.reader-is refl) (rw w.reader-is refl)
    ]
