-- Writes of the requests of one run.
use Rattle.std.proofs.Common.{◌≡◌, ℕ, ◌<◌, ◌≤◌, Bool, true, false, refl, sym, inl, inr, ◌⊎◌, arith, eqb-true}
use Rattle.std.specs.Prelude.{◌==◌}
use Rattle.std.proofs.lemmas.Bool.Decides.{nat_tests}
use Rattle.fence.specs.declared.token.Token.{Token}
use Rattle.fence.specs.Tokens.{IsNoLater, IsUpTo}
use Rattle.fence.proofs.Shelving.{HasRisen}
use Rattle.job_fence.specs.Requests.{Request}
use Rattle.job_fence.specs.Stores.{IsOfSameOrLaterOwnerIn}

-- what a write of an earlier epoch, or of a request that the run served before, stands to one that it serves now
pub served_below : (epoch : ℕ) (w r : Request) → r.token.epoch ≡ epoch → w.token.epoch ≡ epoch → (w.task ≡ r.task → IsNoLater w.token r.token)
    → ((w.task ≡ r.task → ⊥) → w.token.generation < r.token.generation) → IsUpTo w.token r.token
served_below epoch w r now before own others = by_test (w.task == r.task) refl
  where
    by_test : (b : Bool) → b ≡ (w.task == r.task) → IsUpTo w.token r.token
    by_test true e = inr (omega (arith, now, before), own (eqb-true w.task r.task (sym e)))
    by_test false e = inr (omega (arith, now, before), inl (others (λ same. let other : false ≡ (w.task == r.task) = e in absurd (grind (arith, nat_tests)))))

pub no_later_by : (a b : Token) → a.generation ≤ b.generation → a.life ≤ b.life → IsNoLater a b
no_later_by a b generations lives = elim (below_or_same a.generation b.generation generations) [ inl below ↦ inl below | inr same ↦ inr (same, lives) ]
  where
    below_or_same : (g h : ℕ) → g ≤ h → (g < h) ⊎ (g ≡ h)
    below_or_same g h low = grind arith

-- of two accepted writes
pub by_owner : (epoch : ℕ) (P : Request → Type 0) (last earlier : Request) → ((w : Request) → P w → w.token.epoch ≡ epoch)
    → (P last → P earlier → earlier.token.generation ≡ last.token.generation → earlier.task ≡ last.task)
    → (last.token.epoch < epoch) ⊎ P last → (earlier.token.epoch < epoch) ⊎ P earlier → HasRisen last earlier → IsOfSameOrLaterOwnerIn epoch last earlier
by_owner epoch P last earlier of_epoch same l (inl old) risen = inl old
by_owner epoch P last earlier of_epoch same (inl old) (inr p) (inl below) = (let e = of_epoch earlier p in absurd (omega (arith, old, e, below)))
by_owner epoch P last earlier of_epoch same (inl old) (inr p) (inr risen) = (let e = of_epoch earlier p in let f = risen.0 in absurd (omega (arith, old, e, f)))
by_owner epoch P last earlier of_epoch same (inr q) (inr p) (inl below) = (let e = of_epoch earlier p in let f = of_epoch last q in absurd (omega (arith, e, f, below)))
by_owner epoch P last earlier of_epoch same (inr q) (inr p) (inr risen) =
    inr (of_epoch last q, elim risen.1 [ inl later ↦ inl later | inr also ↦ inr (also.0, same q p also.0, also.1) ])

-- of two tokens of one epoch
pub later_of : (a b : Token) → IsUpTo a b → a.epoch ≡ b.epoch → IsNoLater a b
later_of a b (inl below) same = absurd (omega (arith, below, same))
later_of a b (inr up) same = up.1
