use Rattle.snapshot_text.specs.Lines.{IsNext, form_of}
use Rattle.snapshot_text.proofs.Loops.{each_more, one_more}
use Rattle.snapshot_text.proofs.reading.next_values.Goals as goal

pub loop-taken-preserved : goal.loop-taken-preserved
loop-taken-preserved g c =
    let form = form_of g.T.Wire.name g.T.Wire.data_of g.T.Wire.form in
    rw c.in_ok-push.ensures.items (record {
      count = one_more c.loop-taken.values.items c.in_ok-next_value.field-0 c.loop-taken._taken c.loop-taken.invariant.count;
      says = each_more (IsNext c.args.job.now form) c.loop-taken.values.items c.in_ok-next_value.field-0 c.args.lines.now c.loop-taken.lines c.next_value.new.lines
          c.loop-taken.invariant.says c.in_ok-next_value.ensures.ok;
    })
