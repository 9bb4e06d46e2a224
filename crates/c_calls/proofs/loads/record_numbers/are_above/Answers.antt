use Rattle.std.proofs.Common.{arith, sym}
use Rattle.std.proofs.lemmas.Bool.{lt-ltb}
use Rattle.std.proofs.lemmas.Bool.Decides.{nat_tests}
use Rattle.std.proofs.lemmas.List.{take_all}
use Rattle.c_calls.specs.declared.loads.record_numbers.RecordNumbers.{RecordNumbers}
use Rattle.c_calls.proofs.Adding.{one_more, within}
use Rattle.c_calls.proofs.loads.record_numbers.are_above.Goals as goal

abbrev no_record : RecordNumbers
no_record = record { slice_key = 0; weight = 0 }

pub returns-then-left-record : goal.returns-then-left-record
returns-then-left-record c = λ task.
    sym (lt-ltb _ _ (omega (arith, c.loop-record.invariant task, within task c.args.records.now c.loop-record.record-index no_record c.loop-record-test.true)))

pub loop-record-preserved : goal.loop-record-preserved
loop-record-preserved c = λ task.
    omega (arith, c.loop-record.invariant task, one_more task c.args.records.now c.loop-record.record-index no_record c.loop-record-test.true)

pub returns : goal.returns
returns c = λ task.
    let all = rw (take_all c.loop-record.record-index c.args.records.now (omega arith)) at (c.loop-record.invariant task) in
    grind (arith, nat_tests, all)
