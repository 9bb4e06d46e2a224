use Rattle.slicelet.proofs.Hearing.{same_rule, same_permitted, same_continuous, agree_other_way}
use Rattle.slicelet.proofs.laws.agreement_law.Goals as goal

pub returns-clause-rule : goal.returns-clause-rule
returns-clause-rule c = λ covers other h at agree. same_rule covers other h at agree

pub returns-clause-permitted : goal.returns-clause-permitted
returns-clause-permitted c = λ covers other h at agree. same_permitted covers other h at agree

pub returns-clause-continuous : goal.returns-clause-continuous
returns-clause-continuous c = λ covers other h handle at agree.
    (same_continuous covers other h handle at agree, same_continuous other covers h handle at (agree_other_way covers other h agree))
