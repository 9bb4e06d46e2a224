-- The greatest of some terms.
use Rattle.std.proofs.Common.{◌≡◌, ℕ, Bool, true, false, ◌&&◌, ◌||◌, List, [], ◌∷◌, refl, sym, arith}
use Rattle.std.specs.Prelude.{Option, Some, None, ◌==◌, nat_lt, if◌then◌else◌}
use Rattle.std.proofs.lemmas.Bool.Decides.{nat_tests}
use Rattle.machines.proofs.Every.{all_weaker}
use Rattle.grants.specs.declared.values.JobTerm.{JobTerm}
use Rattle.grants.proofs.Members.{here, there}
use Rattle.assigner.specs.Terms.{is_above, is_above_kept, Call, kept_after, offered_since_drop, IsGreatest}

-- no term is above itself
not_above_itself : (n u : ℕ) → (nat_lt n n || (n == n && nat_lt u u)) ≡ false
not_above_itself n u =
    let first : nat_lt n n ≡ false = grind (arith, nat_tests) in
    let second : nat_lt u u ≡ false = grind (arith, nat_tests) in
    let same : (n == n) ≡ true = grind (arith, nat_tests) in
    rw (first, second, same) refl

-- what is not above a lower term is not above a higher one
stays_below : (o t k : JobTerm) → is_above t k ≡ true → is_above o k ≡ false → is_above o t ≡ false
stays_below o t k above below = grind (arith, nat_tests)

module _ (id : ℕ) (terms : List JobTerm) (term : JobTerm) where
  offered : (kept : Option JobTerm) → IsGreatest terms kept → (own : Bool)
      → IsGreatest (if own then term ∷ terms else terms) (if own && is_above_kept term kept then Some term else kept)
  offered kept g false = g
  offered None g true = (here term terms, (not_above_itself term.number term.until, rw g tt))
  offered (Some kept) g true = by_test (is_above term kept) refl
    where
      by_test : (b : Bool) → b ≡ is_above term kept → IsGreatest (term ∷ terms) (if b then Some term else Some kept)
      by_test true e = (here term terms, (not_above_itself term.number term.until, all_weaker _ _ terms (λ o below. stays_below o term kept (sym e) below) g.1))
      by_test false e = (there term kept terms g.0, (sym e, g.1))

pub keeps_greatest : (id : ℕ) (calls : List Call) → IsGreatest (offered_since_drop id calls) (kept_after id calls)
keeps_greatest id [] = refl
keeps_greatest id (Call.Offer term ∷ calls) = offered id (offered_since_drop id calls) term (kept_after id calls) (keeps_greatest id calls) (term.assigner == id)
keeps_greatest id (Call.DropTerm ∷ calls) = refl
