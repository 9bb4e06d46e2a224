use Rattle.audit_text.proofs.counts_text.coarse_text.Goals as goal

pub returns : goal.returns
returns c = rw (← c.coarse_count.ensures) c.in_ok-text.ensures
