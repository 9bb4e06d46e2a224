use Rattle.std.proofs.Common.{◌≡◌, [], List, ◌+◌, sym, subst}
use Rattle.stretches.specs.declared.breaks.TaskHandles.{TaskHandles}
use Rattle.stretches.specs.Tasks.{Each}
use Rattle.stretches.specs.Breaks.{AreBreaks}
use Rattle.stretches.proofs.Lists.{each_push}
use Rattle.stretches.proofs.job_handles.JobHandles.new.Goals as goal

pub loop-place-preserved : goal.loop-place-preserved
loop-place-preserved c = record {
  none = subst (λ (xs : List TaskHandles). Each (λ task one. one.handles.items ≡ []) (c.loop-place._place + 1) xs) (sym c.in_ok-push.ensures.items)
      (each_push (λ task one. one.handles.items ≡ []) c.loop-place._place c.loop-place.tasks.items c.loop-place.invariant.none
      c.new.result c.new.ensures.none);
  breaks = subst (λ (xs : List TaskHandles). Each (λ task. AreBreaks task []) (c.loop-place._place + 1) xs) (sym c.in_ok-push.ensures.items)
      (each_push (λ task. AreBreaks task []) c.loop-place._place c.loop-place.tasks.items c.loop-place.invariant.breaks
      c.new.result (c.new.ensures.kept (c.loop-place._place + 1)));
}
