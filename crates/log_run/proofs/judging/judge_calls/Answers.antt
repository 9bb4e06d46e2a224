use Rattle.log_run.proofs.Leaving.{judged_in}
use Rattle.log_run.proofs.judging.judge_calls.Goals as goal

pub returns-clause-found : goal.returns-clause-found
returns-clause-found g c = λ job begins.
    judged_in job c.sort.new.entries.items c.in_ok-judged.judged.outcome (rw c.deref.ensures.value at c.in_default.ensures)
    (rw c.deref-2.ensures.value at (c.in_ok-judged.ensures.found job begins))

pub returns-clause-state : goal.returns-clause-state
returns-clause-state g c = λ job begins. rw c.deref-2.ensures.value at (c.in_ok-judged.ensures.state job begins)

pub returns-clause-sent : goal.returns-clause-sent
returns-clause-sent g c = λ job begins. rw c.deref-2.ensures.value at (c.in_ok-judged.ensures.sent job begins)
