-- What was given before the next event.
use Rattle.std.proofs.Common.{◌≡◌, ℕ, ◌+◌, ◌⊎◌, inl, inr, Bool, true, false, List, refl, sym, ◌∙◌, ap, subst, arith, eqb-true}
use Rattle.std.specs.Prelude.{◌==◌, slice_get, Some, if◌then◌else◌}
use Rattle.std.specs.HashSet.{contains}
use Rattle.std.proofs.lemmas.Bool.Decides.{nat_tests}
use Rattle.store_writes.specs.declared.write.GivenToken.{GivenToken}
use Rattle.store_writes.specs.declared.write.Write.{Write}
use Rattle.store_writes.specs.declared.write.WriteEvent.{WriteEvent}
use Rattle.store_writes.specs.declared.write.WriteEvent.TheVariants.{Given, Offered}
use Rattle.store_writes.specs.declared.given.GivenTokens.{GivenTokens}
use Rattle.store_writes.specs.Writes.{WasGiven, token_needed}
use Rattle.store_writes.specs.internals.Firsts.{AllGivenBefore, AreGiven, IsFirstNotGiven, IsGiven, IsLacking, same_token}

module _ (events : List WriteEvent) (index : ℕ) (token : GivenToken) where
  pub given_later : WasGiven events index token → WasGiven events (index + 1) token
  given_later w = (w.0, (let l = w.1 in omega (arith, l)), w.2)

  pub given_here : slice_get events index ≡ Some (Given token) → WasGiven events (index + 1) token
  given_here e = (index, (omega (arith)), e)

  -- it was given before, or by this event
  pub given_cases : (event : WriteEvent) → slice_get events index ≡ Some event → WasGiven events (index + 1) token
      → WasGiven events index token ⊎ (event ≡ Given token)
  given_cases event here w = by_place (w.0 == index) refl
    where
      by_place : (b : Bool) → b ≡ (w.0 == index) → WasGiven events index token ⊎ (event ≡ Given token)
      by_place true e =
          let same : w.0 ≡ index = eqb-true w.0 index (sym e) in
          let both : Some event ≡ Some (Given token) = sym here ∙ ap (slice_get events) (sym same) ∙ w.2 in
          inr cc
      by_place false e = inl (w.0, (let l = w.1 in grind (arith, nat_tests)), w.2)

-- what a set says of a token that it has or lacks
pub says_given : (events : List WriteEvent) (index : ℕ) (given : GivenTokens) (token : GivenToken) → AreGiven events index given → (b : Bool)
    → b ≡ contains same_token given.tokens token → IsGiven events index token b
says_given events index given token are true e = are.only token (sym e)
says_given events index given token are false e = λ w. (let t = are.all token w in let h : true ≡ false = sym t ∙ sym e in cc)

-- same parts, same tokens
pub equal_tokens : (a b : GivenToken) → same_token a b ≡ true → a ≡ b
equal_tokens a b e = grind (arith, nat_tests)

pub same_itself : (a : GivenToken) → same_token a a ≡ true
same_itself a = grind (arith, nat_tests)

-- a set with one more token
pub gives_one : (events : List WriteEvent) (index : ℕ) (token : GivenToken) (old new : GivenTokens) → AreGiven events index old
    → slice_get events index ≡ Some (Given token)
    → ((q : GivenToken) → contains same_token new.tokens q ≡ (if same_token token q then true else contains same_token old.tokens q))
    → AreGiven events (index + 1) new
gives_one events index token old new are here updates = record { only = only; all = all }
  where
    only : (q : GivenToken) → contains same_token new.tokens q ≡ true → WasGiven events (index + 1) q
    only q e = by_test (same_token token q) refl
      where
        by_test : (b : Bool) → b ≡ same_token token q → WasGiven events (index + 1) q
        by_test true t = given_here events index q (here ∙ ap (λ (x : GivenToken). Some (Given x)) (equal_tokens token q (sym t)))
        by_test false t = given_later events index q (are.only q (sym (updates q ∙ ap (λ (b : Bool). if b then true else contains same_token old.tokens q) (sym t)) ∙ e))

    all : (q : GivenToken) → WasGiven events (index + 1) q → contains same_token new.tokens q ≡ true
    all q w = either (given_cases events index q (Given token) here w)
      where
        old_one : (b : Bool) → contains same_token old.tokens q ≡ true → (if b then true else contains same_token old.tokens q) ≡ true
        old_one true e = refl
        old_one false e = e

        either : WasGiven events index q ⊎ (Given token ≡ Given q) → contains same_token new.tokens q ≡ true
        either (inl before) = updates q ∙ old_one (same_token token q) (are.all q before)
        either (inr e) =
            let is : token ≡ q = cc in
            let t : same_token token q ≡ true = subst (λ (x : GivenToken). same_token token x ≡ true) is (same_itself token) in
            updates q ∙ ap (λ (b : Bool). if b then true else contains same_token old.tokens q) t

-- THE NEXT EVENT

-- an event that lacks its token is the first such one
pub is_first_lacking : (events : List WriteEvent) (index : ℕ) (event : WriteEvent) → slice_get events index ≡ Some event → IsLacking events index event true
    → AllGivenBefore events index → IsFirstNotGiven events index
is_first_lacking events index (Given token) here lacks before = absurd (let h : true ≡ false = lacks in cc)
is_first_lacking events index (Offered write) here lacks before = record { write = write; here = here; not_given = lacks; first = before }

-- one that does not, does not
pub given_on : (events : List WriteEvent) (index : ℕ) (event : WriteEvent) → slice_get events index ≡ Some event → IsLacking events index event false
    → AllGivenBefore events index → AllGivenBefore events (index + 1)
given_on events index event here has before place write l at = by_place (place == index) refl
  where
    by_event : (other : WriteEvent) → other ≡ Offered write → IsLacking events index other false → WasGiven events index (token_needed write)
    by_event (Given token) e h = absurd (let t : Given token ≡ Offered write = e in cc)
    by_event (Offered same) e h =
        let is : same ≡ write = (let t : Offered same ≡ Offered write = e in cc) in
        subst (λ (w : Write). WasGiven events index (token_needed w)) is h

    by_place : (b : Bool) → b ≡ (place == index) → WasGiven events place (token_needed write)
    by_place true e =
        let same : place ≡ index = eqb-true place index (sym e) in
        let both : Some event ≡ Some (Offered write) = sym here ∙ ap (slice_get events) (sym same) ∙ at in
        let is : event ≡ Offered write = cc in
        subst (λ (i : ℕ). WasGiven events i (token_needed write)) (sym same) (by_event event is has)
    by_place false e = before place write (grind (arith, nat_tests)) at
