use Rattle.std.proofs.Common.{◌≡◌, Bool, Decides, subst, sym}
use Rattle.audit.proofs.Comparing.{same_found, found_decides}
use Rattle.audit.proofs.sameness.is_found.Goals as goal

pub returns-in-Found : goal.returns-in-Found
returns-in-Found c =
    same_found c.eq.result c.args.told.now c.args.found.now c.in-Found.other c.in-Found.is
    (subst (λ (b : Bool). Decides b (c.args.found.now ≡ c.in-Found.other)) (sym c.eq.ensures) (found_decides c.args.found.now c.in-Found.other))
