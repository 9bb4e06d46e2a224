use Rattle.std.proofs.Common.{◌≡◌, []}
use Rattle.stretches.specs.Tasks.{Each}
use Rattle.stretches.specs.Breaks.{AreBreaks}
use Rattle.stretches.proofs.job_handles.JobHandles.new.Given as goal

-- the tasks so far
abbrev pub invariant-loop-place : goal.invariant-loop-place
invariant-loop-place l = record {
  none : Each (λ task one. one.handles.items ≡ []) l._place l.tasks.items;
  breaks : Each (λ task. AreBreaks task []) l._place l.tasks.items;
}
