use Rattle.library_example.proofs.Publishing.{committed_as_proposed}
use Rattle.library_example.proofs.steps.publish.Goals as goal

pub returns : goal.returns
returns c = committed_as_proposed c.job_take.new.self c.propose.new.self c.commit.new.self c.in_ok-term.term.number c.args.at
    c.in_ok-commit.field-0 c.args.assignment.now c.in_ok-propose.field-0 c.in_ok-propose.ensures c.in_ok-commit.ensures
