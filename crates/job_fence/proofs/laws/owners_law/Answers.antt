use Rattle.std.proofs.Common.{◌≡◌, ℕ, ◌∷◌, sym, ◌∙◌, subst, inl, inr, arith}
use Rattle.machines.proofs.Every.{all_weaker}
use Rattle.fence.specs.Tokens.{IsUpTo}
use Rattle.fence.specs.Shelves.{shelf_after}
use Rattle.fence.proofs.Shelving.{HasRisen, accepted_all, turn_weaker}
use Rattle.job_fence.specs.Requests.{Request, Serves}
use Rattle.job_fence.specs.Care.{IsCareful}
use Rattle.job_fence.specs.Stores.{IsServedIn, IsOfSameOrLaterOwnerIn}
use Rattle.job_fence.proofs.Writing.{served_below, later_of, by_owner}
use Rattle.job_fence.proofs.laws.owners_law.Goals as goal

pub returns-clause-owners : goal.returns-clause-owners
returns-clause-owners c = λ job epoch run key offered within is_run served.
    turn_weaker (IsServedIn job epoch run key) HasRisen (IsOfSameOrLaterOwnerIn epoch) (shelf_after offered).accepted
    (λ last earlier of_last of_earlier risen.
    by_owner epoch (λ (w : Request). Serves job epoch run w × (w.key ≡ key)) last earlier
    (λ w p. c.fencing_law.ensures.epochs job epoch run w p.0)
    (λ q p same. c.fencing_law.ensures.same job epoch run earlier last within is_run p.0 q.0 (p.1 ∙ sym q.1) same)
    of_last of_earlier risen)
    (accepted_all (IsServedIn job epoch run key) offered served) (c.store_law.ensures.rising offered)

pub returns-clause-owner : goal.returns-clause-owner
returns-clause-owner c = λ job epoch past e r offered within is_run timely careful now served.
    let here = c.fencing_law.ensures.epochs job epoch (e ∷ past) r (inl now) in
    c.store_law.ensures.highest offered r.token
    (all_weaker (IsServedIn job epoch past r.key) (λ (w : Request). IsUpTo w.token r.token) offered
    (λ w before. elim before [
      | inl old ↦ inl (omega (arith, old, here))
      | inr p ↦ served_below epoch w r here (c.fencing_law.ensures.epochs job epoch past w p.0)
          (λ same. later_of w.token r.token (c.fencing_law.ensures.steady job epoch (e ∷ past) w r within is_run timely (subst (λ (t : ℕ). IsCareful t (e ∷ past)) (sym same) careful) (inl (now, p.0)) p.1 same)
          (c.fencing_law.ensures.epochs job epoch past w p.0 ∙ sym here))
          (λ others. c.fencing_law.ensures.rising job epoch (e ∷ past) w r within is_run timely (inl (now, p.0)) p.1 others)
    ]) served)
