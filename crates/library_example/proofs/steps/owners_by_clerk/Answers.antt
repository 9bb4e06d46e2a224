use Rattle.std.proofs.Common.{◌≡◌, ap}
use Rattle.clerk.specs.declared.clerk.Found.{Found}
use Rattle.clerk.specs.Steps.{found_in}
use Rattle.library_example.proofs.Finding.{found_alone}
use Rattle.library_example.proofs.steps.owners_by_clerk.Goals as goal

found : (c : goal.Joined-clerk-4) → c.in_ok-look.field-0 ≡ found_in c.args.assignment.now c.args.key
found c = found_alone c.new-clerk.result c.learn.new.self c.args.assignment.now c.in_ok-carry.field-0 c.in_ok-learn.field-0 c.args.key
    c.in_ok-look.field-0 c.new-clerk.ensures c.in_ok-carry.ensures c.in_ok-learn.ensures c.in_ok-look.ensures

pub returns-clause-generation : goal.returns-clause-generation
returns-clause-generation c = ap (λ (f : Found). f.generation) (found c)

pub returns-clause-owners : goal.returns-clause-owners
returns-clause-owners c = ap (λ (f : Found). f.owners.items) (found c)
