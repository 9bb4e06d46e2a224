use Rattle.std.proofs.Common.{length, subst, sym}
use Rattle.std.specs.Prelude.{Option, MatchOption, ℕ}
use Rattle.store_writes.specs.declared.late.Late.{Late}
use Rattle.store_writes.specs.Writes.{IsFirstRuledOut}
use Rattle.store_writes.specs.internals.Firsts.{AllGivenBefore, IsFirstNotGiven, IsFirstOvertaken, NoneOvertakenBefore}
use Rattle.store_writes.proofs.Choosing.{only_not_given, only_overtaken}
use Rattle.store_writes.proofs.ruled_out.first_of.Goals as goal

pub returns-in-None-Some : goal.returns-in-None-Some
returns-in-None-Some c = λ events given late.
    let all = subst (λ (o : Option ℕ). MatchOption o (AllGivenBefore events (length events)) (IsFirstNotGiven events)) c.in-None-Some.is-0 given in
    let is = subst (λ (o : Option Late). MatchOption o (NoneOvertakenBefore events (length events)) (IsFirstOvertaken events)) c.in-None-Some.is-1 late in
    subst (IsFirstRuledOut events) (sym c.ruled_out.ensures) (only_overtaken events c.in-None-Some.late is all)

pub returns-in-Some-None : goal.returns-in-Some-None
returns-in-Some-None c = λ events given late.
    let is = subst (λ (o : Option ℕ). MatchOption o (AllGivenBefore events (length events)) (IsFirstNotGiven events)) c.in-Some-None.is-0 given in
    let none = subst (λ (o : Option Late). MatchOption o (NoneOvertakenBefore events (length events)) (IsFirstOvertaken events)) c.in-Some-None.is-1 late in
    only_not_given events c.in-Some-None.index is none
