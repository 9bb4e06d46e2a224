use Rattle.log_causes.proofs.judging.find_calls.Goals as goal

pub returns-clause-found : goal.returns-clause-found
returns-clause-found g c = λ job begins.
    rw (← c.as_slice.ensures.value) (c.in_ok-finding.ensures.found job begins (rw c.as_slice.ensures.value (c.in_ok-judged.ensures.found job begins)))

pub returns-clause-sent : goal.returns-clause-sent
returns-clause-sent g c = λ job begins.
    rw (← c.as_slice.ensures.value) (c.in_ok-finding.ensures.sent job _ (rw c.as_slice.ensures.value (c.in_ok-judged.ensures.sent job begins)))
