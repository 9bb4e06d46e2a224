-- A careful task is never told to give up a lease that it must keep.
use Rattle.std.proofs.Common.{◌≡◌, Bool, true, false, refl, sym, ◌∙◌, ap}
use Rattle.std.specs.Prelude.{if◌then◌else◌}
use Rattle.lease_rule.specs.declared.lease.Kind.{Kind}
use Rattle.slicelet.specs.declared.next_action.TaskAction.{TaskAction}
use Rattle.slicelet.specs.declared.next_action.TaskAction.TheVariants.{Start, Ask, GiveUp, Rest}
use Rattle.slicelet.specs.States.{SliceletState}
use Rattle.fence.specs.Giving.{may_give_up, carefully}

pub gives_up_carefully : (s : SliceletState) (action : TaskAction) (kind : Kind) → carefully s action ≡ GiveUp kind → may_give_up s kind ≡ true
gives_up_carefully s (GiveUp given) kind e = by_test (may_give_up s given) refl e
  where
    by_test : (b : Bool) → may_give_up s given ≡ b → (if b then GiveUp given else Rest) ≡ GiveUp kind → may_give_up s kind ≡ true
    by_test true may same = (let is : given ≡ kind = cc in ap (λ (k : Kind). may_give_up s k) (sym is) ∙ may)
    by_test false may same = absurd (cc)
gives_up_carefully s Start kind e = absurd (cc)
gives_up_carefully s (Ask asked) kind e = absurd (cc)
gives_up_carefully s Rest kind e = absurd (cc)
