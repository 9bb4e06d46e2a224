use Rattle.std.proofs.Common.{rules}
use Rattle.run_record.proofs.Making.{record_taken}
use Rattle.run_record.proofs.run_record.RunRecord.of.Goals as goal

pub returns-clause-leads : goal.returns-clause-leads
returns-clause-leads c = λ job past is. record_taken job past c.args.snapshot.now _ is (search rules)
