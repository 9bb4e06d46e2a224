use Rattle.weighted_move.proofs.Handing.{handed_over, taken_over, plan_handed_over, number_exact}
use Rattle.weighted_move.proofs.laws.fixed_law.Goals as goal

pub returns-clause-plan : goal.returns-clause-plan
returns-clause-plan c = plan_handed_over

pub returns-clause-number : goal.returns-clause-number
returns-clause-number c = number_exact

pub returns-clause-candidates : goal.returns-clause-candidates
returns-clause-candidates c slices tasks redundancy left move set is_redundancy same fits =
    (handed_over slices tasks redundancy left set is_redundancy same fits move, taken_over slices tasks redundancy left set is_redundancy same fits move)
