use Rattle.std.proofs.Common.{[], refl}
use Rattle.run_record.proofs.Making.{none_last, record_empty}
use Rattle.run_record.proofs.Tasks.{new_stand}
use Rattle.run_record.proofs.run_record.RunRecord.new.Goals as goal

pub returns : goal.returns
returns c =
    record_empty c.args.job [] _ (new_stand c.args.job.tasks c.in_ok-new_tasks.field-0.items c.in_ok-new_tasks.ensures) c.in_ok-new_clerks.ensures
    (none_last [] _ c.new-2.ensures.items) c.new.ensures.items c.new-3.ensures.items c.new-4.ensures.empty refl
