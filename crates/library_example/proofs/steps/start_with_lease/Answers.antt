use Rattle.library_example.proofs.FirstLease.{first_permits}
use Rattle.library_example.proofs.steps.start_with_lease.Goals as goal

pub returns-clause-granted : goal.returns-clause-granted
returns-clause-granted c = rw c.in_ok-heard.ensures c.in_ok-grant.ensures

pub returns-clause-permits : goal.returns-clause-permits
returns-clause-permits c = first_permits c.args.task c.args.life c.args.at c.new-slicelet.result c.start.new.self c.hear.new.self
    c.in_ok-heard.heard c.in_ok-start.field-0 c.in_ok-hear.field-0 c.new-slicelet.ensures c.in_ok-start.ensures c.in_ok-hear.ensures
