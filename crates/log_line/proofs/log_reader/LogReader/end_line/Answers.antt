use Rattle.std.proofs.Common.{rules, ◌∷◌, ◌++◌, [], ℕ, List, subst}
use Rattle.log_line.specs.Files.{place_at}
use Rattle.log_line.specs.Readers.{AreTaken}
use Rattle.log_line.proofs.log_reader.LogReader.end_line.Goals as goal

pub returns : goal.returns
returns g c = record {
  taken = λ lines are.
      subst (λ (bytes : List ℕ). AreTaken (lines ++ record { place = place_at c.args.self.now.file c.args.self.now.number; bytes = bytes; ended = c.args.ended } ∷ []) c.take.new.self)
      c.as_slice.ensures.value (c.in_ok-take.ensures lines are);
  part = c.clear.ensures.items;
  file = search rules;
  number = search rules;
}
