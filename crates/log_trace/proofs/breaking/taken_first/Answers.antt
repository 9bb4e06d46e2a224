use Rattle.std.proofs.Common.{subst}
use Rattle.std.specs.Prelude.{IfOk, Option}
use Rattle.log_trace.specs.declared.breaking.BrokenHandle.{BrokenHandle}
use Rattle.log_trace.specs.Lines.{IsTakenFirst}
use Rattle.log_trace.proofs.Watched.{taken_by}
use Rattle.log_trace.proofs.breaking.taken_first.Goals as goal

pub returns-in-Some-find : goal.returns-in-Some-find
returns-in-Some-find c = λ job entries index begins takings same.
    let found = c.in-Some-find.ensures in
    let before = c.args.before.now in
    let broken = c.in-Some.broken in
    let first = taken_by job entries index before broken c.args.takings.now.all.items c.in-Some-find.taking takings found.0 found.1 same in
    subst (λ (b : Option BrokenHandle). IsTakenFirst job before b c.first_below.result) c.in-Some.ensures
    (rw c.first_below.ensures first)

pub returns-in-None : goal.returns-in-None
returns-in-None c = λ job entries index begins takings same.
    subst (λ (b : Option BrokenHandle). IfOk c.first_taking.result (IsTakenFirst job c.args.before.now b)) c.in-Some.ensures (c.first_taking.ensures job begins)
