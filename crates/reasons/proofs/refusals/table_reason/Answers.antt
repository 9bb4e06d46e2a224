use Rattle.std.proofs.Common.{sym, subst}
use Rattle.std.specs.Prelude.{IfOk}
use Rattle.grants.specs.declared.table_error.TableError.{TableError}
use Rattle.reasons.specs.Reasons.{by_table, IsReasonOrNone}
use Rattle.reasons.specs.internals.Answers.{IsTableRefusal}
use Rattle.reasons.proofs.Refusing.{table_read, held_up}
use Rattle.reasons.proofs.refusals.table_reason.Goals as goal

pub returns-in-ClockBack : goal.returns-in-ClockBack
returns-in-ClockBack c = λ made s places asks answer.
    let t = c.args.table.now in
    let o = c.table_reading_reason.result in
    subst (λ (e : TableError). IsReasonOrNone t s places made (by_table e) o) (sym c.in-ClockBack.is)
    (table_read t s places made c.args.question.now o asks (subst (λ (e : TableError). IsTableRefusal t made e) c.in-ClockBack.is answer) c.table_reading_reason.ensures)

pub returns-in-Held : goal.returns-in-Held
returns-in-Held c = λ made s places asks answer.
    let t = c.args.table.now in
    let result = c.held_reason.result in
    subst (λ (e : TableError). IfOk result (IsReasonOrNone t s places made (by_table e))) (sym c.in-Held.is)
    (held_up t s places c.in-Held.task c.in-Held.number c.in-Held.kind made c.args.question.now result asks
    (subst (λ (e : TableError). IsTableRefusal t made e) c.in-Held.is answer) c.held_reason.ensures)
