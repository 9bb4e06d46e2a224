use Rattle.std.proofs.Common.{take, subst}
use Rattle.store_writes.specs.internals.Firsts.{IsFound, IsGreaterBefore}
use Rattle.store_writes.proofs.Passing.{found_same, found_first, found_later, found_earlier}
use Rattle.store_writes.proofs.late.earlier.Goals as goal

pub returns-in_default : goal.returns-in_default
returns-in_default c = λ taken place found here greater.
    found_same taken place c.args.write here c.args.first found (subst (IsGreaterBefore (take place taken) c.args.write) c.in_default.is greater)

pub returns-in-Some-first : goal.returns-in-Some-first
returns-in-Some-first c = λ taken place found here greater.
    found_later taken place c.args.write here c.in-Some.by (subst (IsGreaterBefore (take place taken) c.args.write) c.in-Some.is greater) c.in-Some-first.first
    (subst (IsFound taken place) c.in-Some-first.is found) c.if-first-late.true

pub returns-in_default-first : goal.returns-in_default-first
returns-in_default-first c = λ taken place found here greater.
    found_earlier taken place c.args.write here c.in-Some.by (subst (IsGreaterBefore (take place taken) c.args.write) c.in-Some.is greater) c.in-Some-first.first
    (subst (IsFound taken place) c.in-Some-first.is found) c.if-first-late.false

pub returns-in_default-first-2 : goal.returns-in_default-first-2
returns-in_default-first-2 c = λ taken place found here greater.
    found_first taken place c.args.write here c.in-Some.by (subst (IsGreaterBefore (take place taken) c.args.write) c.in-Some.is greater)
    (subst (IsFound taken place) c.in_default-first.is found)
