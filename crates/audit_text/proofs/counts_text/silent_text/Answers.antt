use Rattle.std.proofs.Common.{◌≡◌, ◌∙◌, ap}
use Rattle.log_causes.specs.Callers.{silent_tasks}
use Rattle.audit_text.specs.Counts.{silent_line}
use Rattle.audit_text.proofs.counts_text.silent_text.Goals as goal

pub returns : goal.returns
returns c =
    let tasks : c.as_slice.result.now ≡ silent_tasks c.args.job c.args.entries.now = cc (c.as_slice.ensures.value, c.in_ok-tasks.ensures) in
    c.in_ok-text.ensures ∙ ap silent_line tasks
