use Rattle.audit.proofs.Answering.{told_verdict, told_handle, told_denial, told_continuous, told_broken}
use Rattle.audit.proofs.laws.answers_law.Goals as goal

pub returns-clause-rule : goal.returns-clause-rule
returns-clause-rule c = λ job past earlier before turn answer task key at verdict point asked said.
    told_verdict job past earlier before turn answer point task key at verdict asked said

pub returns-clause-hold : goal.returns-clause-hold
returns-clause-hold c = λ job past earlier before turn answer task key at handle point asked said.
    told_handle job past earlier before turn answer point task key at handle asked said

pub returns-clause-denied : goal.returns-clause-denied
returns-clause-denied c = λ job past earlier before turn answer task key at why point asked said.
    told_denial job past earlier before turn answer point task key at why asked said

pub returns-clause-continuous : goal.returns-clause-continuous
returns-clause-continuous c = λ job past earlier before turn answer task at handle point asked said.
    told_continuous job past earlier before turn answer point task at handle asked said

pub returns-clause-broken : goal.returns-clause-broken
returns-clause-broken c = λ job past earlier before turn answer task at handle point asked said.
    told_broken job past earlier before turn answer point task at handle asked said
