use Rattle.std.proofs.Common.{◌≡◌, ◌++◌, take}
use Rattle.snapshot_text.specs.Lines.{AreReadBack, form_of, lines_of}
use Rattle.snapshot_text.proofs.writing.write_lines.Given as goal

abbrev pub invariant-loop-value : goal.invariant-loop-value
invariant-loop-value g l =
    let form = form_of g.T.Wire.name g.T.Wire.data_of g.T.Wire.form in
    record {
      lines : l.text.items ≡ l.fn.text.items ++ lines_of l.job form (take l.value-index l.values);
      reads : AreReadBack l.job form (take l.value-index l.values);
    }
