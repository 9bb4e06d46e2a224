use Rattle.std.proofs.Common.{◌≡◌, length}
use Rattle.snapshot_text.specs.Lines.{Each}
use Rattle.snapshot_text.specs.Texts.{NextTask}
use Rattle.snapshot_text.proofs.reading.next_tasks.Given as goal

abbrev pub invariant-loop-taken : goal.invariant-loop-taken
invariant-loop-taken l = record {
  count : length l.tasks.items ≡ l._taken;
  says : Each (NextTask l.job) l.fn.lines l.tasks.items l.lines;
}
