use Rattle.std.proofs.Common.{sym, subst}
use Rattle.std.specs.Prelude.{Option}
use Rattle.run_record.specs.declared.run_record.RunRecord.{RunRecord}
use Rattle.log_run.specs.internals.Machines.{IsRecorded}
use Rattle.log_run.proofs.log_machines.LogMachines.record.Goals as goal

pub returns-clause-recorded : goal.returns-clause-recorded
returns-clause-recorded c = λ job past recorded reply.
    c.in_ok-record.ensures.leads job past (subst (λ (r : Option RunRecord). IsRecorded job past r) (sym c.in-Some.ensures.value) recorded) reply
