-- The order of tokens.
use Rattle.std.proofs.Common.{◌≡◌, ◌⊎◌, inl, inr, Bool, true, false, nat_lt, refl, sym, ◌∙◌, arith}
use Rattle.std.proofs.lemmas.Bool.Decides.{nat_tests}
use Rattle.fence.specs.declared.token.Token.{Token}
use Rattle.fence.specs.Tokens.{IsBelow, IsEarlier, IsNoLater, IsUpTo}

pub up_to_itself : (a : Token) → IsUpTo a a
up_to_itself a = inr (refl, inr (refl, omega (arith)))

-- one is below the other, or the other is up to it
pub below_or_up_to : (a b : Token) → IsBelow a b ⊎ IsUpTo b a
below_or_up_to a b = by_epoch (nat_lt a.epoch b.epoch) (nat_lt b.epoch a.epoch) refl refl
  where
    by_life : (epoch : a.epoch ≡ b.epoch) (generation : a.generation ≡ b.generation) (l : Bool) → l ≡ nat_lt a.life b.life → IsBelow a b ⊎ IsUpTo b a
    by_life epoch generation true e = inl (inr (epoch, inr (generation, (grind (arith, nat_tests)))))
    by_life epoch generation false e = inr (inr (sym epoch, inr (sym generation, (grind (arith, nat_tests)))))

    by_generation : (epoch : a.epoch ≡ b.epoch) (l m : Bool) → l ≡ nat_lt a.generation b.generation → m ≡ nat_lt b.generation a.generation
        → IsBelow a b ⊎ IsUpTo b a
    by_generation epoch true m e f = inl (inr (epoch, inl (grind (arith, nat_tests))))
    by_generation epoch false true e f = inr (inr (sym epoch, inl (grind (arith, nat_tests))))
    by_generation epoch false false e f = by_life epoch (grind (arith, nat_tests)) (nat_lt a.life b.life) refl

    by_epoch : (l m : Bool) → l ≡ nat_lt a.epoch b.epoch → m ≡ nat_lt b.epoch a.epoch → IsBelow a b ⊎ IsUpTo b a
    by_epoch true m e f = inl (inl (grind (arith, nat_tests)))
    by_epoch false true e f = inr (inl (grind (arith, nat_tests)))
    by_epoch false false e f = by_generation (grind (arith, nat_tests)) (nat_lt a.generation b.generation) (nat_lt b.generation a.generation) refl refl

-- never both
pub not_both : (a b : Token) → IsBelow a b → IsUpTo b a → ⊥
not_both a b (inl e) (inl f) = grind (arith)
not_both a b (inl e) (inr f) = (let g = f.0 in grind (arith))
not_both a b (inr e) (inl f) = (let g = e.0 in grind (arith))
not_both a b (inr e) (inr f) = in_epoch e.1 f.1
  where
    in_epoch : IsEarlier a b → IsNoLater b a → ⊥
    in_epoch (inl g) (inl h) = grind (arith)
    in_epoch (inl g) (inr h) = (let i = h.0 in grind (arith))
    in_epoch (inr g) (inl h) = (let i = g.0 in grind (arith))
    in_epoch (inr g) (inr h) = (let i = g.1 in let j = h.1 in grind (arith))

pub up_to_trans : (a b c : Token) → IsUpTo a b → IsUpTo b c → IsUpTo a c
up_to_trans a b c (inl e) (inl f) = inl (grind (arith))
up_to_trans a b c (inl e) (inr f) = inl (let g = f.0 in grind (arith))
up_to_trans a b c (inr e) (inl f) = inl (let g = e.0 in grind (arith))
up_to_trans a b c (inr e) (inr f) = inr (e.0 ∙ f.0, in_epoch e.1 f.1)
  where
    in_epoch : IsNoLater a b → IsNoLater b c → IsNoLater a c
    in_epoch (inl g) (inl h) = inl (grind (arith))
    in_epoch (inl g) (inr h) = inl (let i = h.0 in grind (arith))
    in_epoch (inr g) (inl h) = inl (let i = g.0 in grind (arith))
    in_epoch (inr g) (inr h) = inr (g.0 ∙ h.0, (let i = g.1 in let j = h.1 in grind (arith)))

pub up_to_unless : (a b : Token) → (IsBelow b a → ⊥) → IsUpTo a b
up_to_unless a b never = by_case (below_or_up_to b a)
  where
    by_case : IsBelow b a ⊎ IsUpTo a b → IsUpTo a b
    by_case (inl below) = absurd (never below)
    by_case (inr up) = up

pub below_unless : (a b : Token) → (IsUpTo b a → ⊥) → IsBelow a b
below_unless a b never = by_case (below_or_up_to a b)
  where
    by_case : IsBelow a b ⊎ IsUpTo b a → IsBelow a b
    by_case (inl below) = below
    by_case (inr up) = absurd (never up)

pub below_up_to : (a b : Token) → IsBelow a b → IsUpTo a b
below_up_to a b (inl e) = inl e
below_up_to a b (inr e) = inr (e.0, in_epoch e.1)
  where
    in_epoch : IsEarlier a b → IsNoLater a b
    in_epoch (inl g) = inl g
    in_epoch (inr g) = inr (g.0, (let i = g.1 in grind (arith)))
