use Rattle.audit_text.proofs.counts_text.calls_text.Goals as goal

pub returns : goal.returns
returns c = rw (← c.in_ok-counts.ensures.table, ← c.in_ok-counts.ensures.tasks, ← c.in_ok-counts.ensures.clerks) c.in_ok-text.ensures
