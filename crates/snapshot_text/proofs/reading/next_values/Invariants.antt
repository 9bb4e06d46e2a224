use Rattle.std.proofs.Common.{◌≡◌, length}
use Rattle.snapshot_text.specs.Lines.{Each, IsNext, form_of}
use Rattle.snapshot_text.proofs.reading.next_values.Given as goal

abbrev pub invariant-loop-taken : goal.invariant-loop-taken
invariant-loop-taken g l =
    let form = form_of g.T.Wire.name g.T.Wire.data_of g.T.Wire.form in
    record {
      count : length l.values.items ≡ l._taken;
      says : Each (IsNext l.job form) l.fn.lines l.values.items l.lines;
    }
