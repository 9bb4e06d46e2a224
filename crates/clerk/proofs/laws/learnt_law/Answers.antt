use Rattle.std.proofs.Common.{ap, refl}
use Rattle.std.specs.Prelude.{Option}
use Rattle.assignment.specs.Slices.{Slicing}
use Rattle.clerk.specs.Steps.{look_at}
use Rattle.clerk.specs.Knowledge.{accepted_since_forget}
use Rattle.clerk.specs.Calls.{clerk_step}
use Rattle.clerk.proofs.GreatestAssignment.{leads_on, leads_to_first, first_is_greatest_of, first_is_greatest, greatest_is_first, nothing_accepted, nothing_kept}
use Rattle.clerk.proofs.laws.learnt_law.Goals as goal

pub returns-clause-next : goal.returns-clause-next
returns-clause-next c = λ past state call h. leads_on past state call (clerk_step state call) refl h

pub returns-clause-value : goal.returns-clause-value
returns-clause-value c = λ past state h. first_is_greatest_of _ state (leads_to_first past state h)

pub returns-clause-greatest : goal.returns-clause-greatest
returns-clause-greatest c = λ past state slicing h. (first_is_greatest _ state slicing (leads_to_first past state h), greatest_is_first _ state slicing (leads_to_first past state h))

pub returns-clause-unknown : goal.returns-clause-unknown
returns-clause-unknown c = λ past state h. (nothing_accepted _ state (leads_to_first past state h), nothing_kept _ state (leads_to_first past state h))

pub returns-clause-answer : goal.returns-clause-answer
returns-clause-answer c = λ past state key h. ap (λ (k : Option Slicing). look_at k key) (first_is_greatest_of (accepted_since_forget past) state (leads_to_first past state h))
