use Rattle.log_trace.proofs.Giving.{none_given}
use Rattle.log_trace.proofs.serving.ServingKept.new.Goals as goal

pub returns : goal.returns
returns c = record {
  stretches = c.in_ok-stretches.ensures;
  handles = record {
    given = none_given c.args.job.tasks c.in_ok-handles.handles.tasks.items c.in_ok-handles.ensures.none;
    breaks = c.in_ok-handles.ensures.breaks;
  };
}
