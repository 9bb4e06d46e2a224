-- What a shelf accepted.
use Rattle.std.proofs.Common.{◌≡◌, ℕ, ◌<◌, ◌≤◌, Bool, true, false, ◌&&◌, ◌||◌, List, [], ◌∷◌, refl, sym, subst, inl, inr, ◌⊎◌, arith}
use Rattle.std.specs.Prelude.{◌==◌, nat_lt, nat_le, Contains, if◌then◌else◌}
use Rattle.std.specs.List.{AllByRecursion}
use Rattle.std.proofs.lemmas.Bool.Decides.{nat_tests}
use Rattle.machines.proofs.Every.{all_weaker}
use Rattle.grants.proofs.Members.{here, there, nowhere, first_or_rest}
use Rattle.fence.proofs.Every.{member}
use Rattle.fence.specs.declared.token.Token.{Token}
use Rattle.fence.specs.Tokens.{IsEarlier, IsBelow, IsNoLater, IsUpTo}
use Rattle.fence.specs.Requests.{Request}
use Rattle.fence.specs.Shelves.{Shelf, lowest, accepts, shelf_after, AreInTurn}

-- THE ORDER OF TOKENS

no_later_along : (a b c : Token) → IsNoLater a b → IsNoLater b c → IsNoLater a c
no_later_along a b c (inl below) (inl over) = inl (omega (arith, below, over))
no_later_along a b c (inl below) (inr over) = (let same = over.0 in inl (omega (arith, below, same)))
no_later_along a b c (inr below) (inl over) = (let same = below.0 in inl (omega (arith, same, over)))
no_later_along a b c (inr below) (inr over) =
    (let one = below.0 in let two = over.0 in let less = below.1 in let more = over.1 in inr (omega (arith, one, two), omega (arith, less, more)))

pub along : (a b c : Token) → IsUpTo a b → IsUpTo b c → IsUpTo a c
along a b c (inl below) (inl over) = inl (omega (arith, below, over))
along a b c (inl below) (inr over) = (let same = over.0 in inl (omega (arith, below, same)))
along a b c (inr below) (inl over) = (let same = below.0 in inl (omega (arith, same, over)))
along a b c (inr below) (inr over) = (let one = below.0 in let two = over.0 in inr (omega (arith, one, two), no_later_along a b c below.1 over.1))

itself : (a : Token) → IsUpTo a a
itself a = inr (refl, inr (refl, omega arith))

not_earlier : (a b : Token) → IsEarlier a b → IsNoLater b a → ⊥
not_earlier a b (inl below) (inl over) = absurd (omega (arith, below, over))
not_earlier a b (inl below) (inr over) = (let same = over.0 in absurd (omega (arith, below, same)))
not_earlier a b (inr below) (inl over) = (let same = below.0 in absurd (omega (arith, same, over)))
not_earlier a b (inr below) (inr over) = (let less = below.1 in let more = over.1 in absurd (omega (arith, less, more)))

not_both : (a b : Token) → IsBelow a b → IsUpTo b a → ⊥
not_both a b (inl below) (inl over) = absurd (omega (arith, below, over))
not_both a b (inl below) (inr over) = (let same = over.0 in absurd (omega (arith, below, same)))
not_both a b (inr below) (inl over) = (let same = below.0 in absurd (omega (arith, same, over)))
not_both a b (inr below) (inr over) = not_earlier a b below.1 over.1

-- a test of two numbers, and of what follows where they are the same
first_by : (p q r : Bool) (g h : ℕ) → p ≡ nat_lt g h → q ≡ (g == h) → (p || (q && r)) ≡ true → (g < h) ⊎ ((g ≡ h) × (r ≡ true))
first_by true q r g h is_p is_q e = inl (grind (arith, nat_tests))
first_by false true true g h is_p is_q e = inr (grind (arith, nat_tests), refl)
first_by false true false g h is_p is_q e = absurd (let f : false ≡ true = e in cc)
first_by false false r g h is_p is_q e = absurd (let f : false ≡ true = e in cc)

lives_by : (k l : ℕ) → nat_le k l ≡ true → k ≤ l
lives_by k l e = grind (arith, nat_tests)

pub accepted_up_to : (g token : Token) → accepts g token ≡ true → IsUpTo g token
accepted_up_to g token e =
    elim (first_by (nat_lt g.epoch token.epoch) (g.epoch == token.epoch) (nat_lt g.generation token.generation || (g.generation == token.generation && nat_le g.life token.life))
    g.epoch token.epoch refl refl e) [
      | inl below ↦ inl below
      | inr same ↦ inr (
        same.0,
        elim (first_by (nat_lt g.generation token.generation) (g.generation == token.generation) (nat_le g.life token.life) g.generation token.generation refl refl same.1) [
          | inl below ↦ inl below
          | inr also ↦ inr (also.0, lives_by g.life token.life also.1)
        ],
      )
    ]

-- A SHELF

abbrev pub HasRisen : Request → Request → Type 0
HasRisen last earlier = IsUpTo earlier.token last.token

record IsInOrder (shelf : Shelf) : Type 0 where
  rising : AreInTurn HasRisen shelf.accepted
  below : AllByRecursion (λ (w : Request). IsUpTo w.token shelf.greatest) shelf.accepted

offered_in_order : (shelf : Shelf) (write : Request) (b : Bool) → b ≡ accepts shelf.greatest write.token → IsInOrder shelf
    → IsInOrder (if b then record { greatest = write.token; accepted = write ∷ shelf.accepted } else shelf)
offered_in_order shelf write false e h = h
offered_in_order shelf write true e h =
    let over = accepted_up_to shelf.greatest write.token (sym e) in
    let all = all_weaker (λ (w : Request). IsUpTo w.token shelf.greatest) (λ (w : Request). IsUpTo w.token write.token) shelf.accepted
    (λ w low. along w.token shelf.greatest write.token low over) h.below in
    record { rising = (all, h.rising); below = (itself write.token, all) }

in_order : (offered : List Request) → IsInOrder (shelf_after offered)
in_order [] = record { rising = tt; below = tt }
in_order (write ∷ before) =
    offered_in_order (shelf_after before) write (accepts (shelf_after before).greatest write.token) refl (in_order before)

pub accepted_rise : (offered : List Request) → AreInTurn HasRisen (shelf_after offered).accepted
accepted_rise offered = (in_order offered).rising

refused_by : (g token : Token) (b : Bool) → b ≡ accepts g token → (IsUpTo g token → ⊥) → b ≡ false
refused_by g token false e n = refl
refused_by g token true e n = absurd (n (accepted_up_to g token (sym e)))

pub lower_refused : (offered : List Request) (accepted : Request) (token : Token) → Contains (shelf_after offered).accepted accepted → IsBelow token accepted.token
    → accepts (shelf_after offered).greatest token ≡ false
lower_refused offered accepted token among below =
    let shelf = shelf_after offered in
    let low = member (λ (w : Request). IsUpTo w.token shelf.greatest) shelf.accepted accepted (in_order offered).below among in
    refused_by shelf.greatest token (accepts shelf.greatest token) refl (λ over. not_both token accepted.token below (along accepted.token shelf.greatest token low over))

-- WHAT HOLDS OF ALL THAT WERE OFFERED

module _ (P : Request → Type 0) where
  offered_all : (shelf : Shelf) (write : Request) (b : Bool) → P write → AllByRecursion P shelf.accepted
      → AllByRecursion P (let new : Shelf = if b then record { greatest = write.token; accepted = write ∷ shelf.accepted } else shelf in new.accepted)
  offered_all shelf write true now all = (now, all)
  offered_all shelf write false now all = all

  pub accepted_all : (offered : List Request) → AllByRecursion P offered → AllByRecursion P (shelf_after offered).accepted
  accepted_all [] all = tt
  accepted_all (write ∷ before) all = offered_all (shelf_after before) write (accepts (shelf_after before).greatest write.token) all.0 (accepted_all before all.1)

  both_all : (R S : Request → Request → Type 0) (x : Request) (xs : List Request) → ((x y : Request) → P x → P y → R x y → S x y) → P x → AllByRecursion P xs
      → AllByRecursion (R x) xs → AllByRecursion (S x) xs
  both_all R S x [] from here rest all = tt
  both_all R S x (y ∷ xs) from here rest all = (from x y here rest.0 all.0, both_all R S x xs from here rest.1 all.1)

  pub turn_weaker : (R S : Request → Request → Type 0) (xs : List Request) → ((x y : Request) → P x → P y → R x y → S x y) → AllByRecursion P xs
      → AreInTurn R xs → AreInTurn S xs
  turn_weaker R S [] from all turn = tt
  turn_weaker R S (x ∷ xs) from all turn = (both_all R S x xs from all.0 all.1 turn.0, turn_weaker R S xs from all.1 turn.1)

-- each accepted write was offered
offered_among : (shelf : Shelf) (write accepted : Request) (before : List Request) (b : Bool) → (Contains shelf.accepted accepted → Contains before accepted)
    → Contains (let new : Shelf = if b then record { greatest = write.token; accepted = write ∷ shelf.accepted } else shelf in new.accepted) accepted
    → Contains (write ∷ before) accepted
offered_among shelf write accepted before false from i = there write accepted before (from i)
offered_among shelf write accepted before true from i =
    elim (first_or_rest write accepted shelf.accepted i) [
      | inl same ↦ subst (λ (w : Request). Contains (write ∷ before) w) same (here write before)
      | inr rest ↦ there write accepted before (from rest)
    ]

pub accepted_among : (offered : List Request) (accepted : Request) → Contains (shelf_after offered).accepted accepted → Contains offered accepted
accepted_among [] accepted i = absurd (nowhere accepted i)
accepted_among (write ∷ before) accepted i =
    offered_among (shelf_after before) write accepted before (accepts (shelf_after before).greatest write.token) (accepted_among before accepted) i

-- WHAT IS ACCEPTED

first_true : (p q r : Bool) (g h : ℕ) → p ≡ nat_lt g h → q ≡ (g == h) → (g < h) ⊎ ((g ≡ h) × (r ≡ true)) → (p || (q && r)) ≡ true
first_true true q r g h is_p is_q u = refl
first_true false true true g h is_p is_q u = refl
first_true false true false g h is_p is_q (inl below) = absurd (grind (arith, nat_tests))
first_true false true false g h is_p is_q (inr up) = absurd (let f : false ≡ true = up.1 in cc)
first_true false false r g h is_p is_q (inl below) = absurd (grind (arith, nat_tests))
first_true false false r g h is_p is_q (inr up) = (let same = up.0 in absurd (grind (arith, nat_tests)))

lives_true : (k l : ℕ) → k ≤ l → nat_le k l ≡ true
lives_true k l low = grind (arith, nat_tests)

pub up_to_accepted : (g token : Token) → IsUpTo g token → accepts g token ≡ true
up_to_accepted g token up =
    first_true (nat_lt g.epoch token.epoch) (g.epoch == token.epoch) (nat_lt g.generation token.generation || (g.generation == token.generation && nat_le g.life token.life))
    g.epoch token.epoch refl refl
    (elim up [
      | inl below ↦ inl below
      | inr same ↦ inr (
        same.0,
        first_true (nat_lt g.generation token.generation) (g.generation == token.generation) (nat_le g.life token.life) g.generation token.generation refl refl
            (elim same.1 [ inl below ↦ inl below | inr also ↦ inr (also.0, lives_true g.life token.life also.1) ]),
      )
    ])

zero_or_more : (n : ℕ) → (0 < n) ⊎ (0 ≡ n)
zero_or_more n = grind arith

above_lowest : (token : Token) → IsUpTo lowest token
above_lowest token = by_epoch (zero_or_more token.epoch)
  where
    by_generation : (0 < token.generation) ⊎ (0 ≡ token.generation) → IsNoLater lowest token
    by_generation (inl more) = inl more
    by_generation (inr none) = inr (none, omega arith)

    by_epoch : (0 < token.epoch) ⊎ (0 ≡ token.epoch) → IsUpTo lowest token
    by_epoch (inl more) = inl more
    by_epoch (inr none) = inr (none, by_generation (zero_or_more token.generation))

-- what is at least each offered token is at least the greatest
module _ (token : Token) where
  offered_below : (shelf : Shelf) (write : Request) (b : Bool) → IsUpTo write.token token → IsUpTo shelf.greatest token
      → IsUpTo (let new : Shelf = if b then record { greatest = write.token; accepted = write ∷ shelf.accepted } else shelf in new.greatest) token
  offered_below shelf write true now before = now
  offered_below shelf write false now before = before

  greatest_below : (offered : List Request) → AllByRecursion (λ (w : Request). IsUpTo w.token token) offered → IsUpTo (shelf_after offered).greatest token
  greatest_below [] all = above_lowest token
  greatest_below (write ∷ before) all =
      offered_below (shelf_after before) write (accepts (shelf_after before).greatest write.token) all.0 (greatest_below before all.1)

  pub highest_accepted : (offered : List Request) → AllByRecursion (λ (w : Request). IsUpTo w.token token) offered → accepts (shelf_after offered).greatest token ≡ true
  highest_accepted offered all = up_to_accepted (shelf_after offered).greatest token (greatest_below offered all)
