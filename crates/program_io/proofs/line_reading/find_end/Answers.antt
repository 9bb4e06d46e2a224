use Rattle.program_io.proofs.Ends.{end_there, none_at_all, none_before, none_but_last}
use Rattle.program_io.proofs.line_reading.find_end.Goals as goal

pub returns-in-Some-clause-stops : goal.returns-in-Some-clause-stops
returns-in-Some-clause-stops c = none_before c.args.bytes.now c.in-Some.end c.in-Some.ensures.0

pub returns-in-Some-clause-ends : goal.returns-in-Some-clause-ends
returns-in-Some-clause-ends c = λ done some. end_there c.args.bytes.now c.in-Some.end c.in-Some.ensures.0 c.in-Some.ensures.1

pub returns-in-None-clause-stops : goal.returns-in-None-clause-stops
returns-in-None-clause-stops c = none_but_last c.args.bytes.now c.in-None.ensures

pub returns-in-None-clause-goes_on : goal.returns-in-None-clause-goes_on
returns-in-None-clause-goes_on c = λ goes_on. none_at_all c.args.bytes.now c.in-None.ensures
