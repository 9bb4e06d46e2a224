-- Writes in their order.
use Rattle.std.proofs.Common.{◌≡◌, ℕ, ◌<◌, ◌≤◌, inl, inr, Bool, true, false, nat_lt, List, length, refl, sym, ◌∙◌, ap, arith}
use Rattle.std.specs.declared.cmp.Ordering.{Ordering}
use Rattle.std.specs.Ordering.{nat_cmp, ordering_then, is_lt}
use Rattle.std.specs.declared.cmp.Ordering.TheVariants.{Less, Equal}
use Rattle.std.specs.Cmp.{IsTotalOrder, nat_cmp_is}
use Rattle.std.specs.List.Sorted.{IsSorted}
use Rattle.std.proofs.Math.ListN.{get_or}
use Rattle.std.proofs.lemmas.Bool.Decides.{nat_tests}
use Rattle.std.proofs.lemmas.Cmp.{nat_cmp_total, on_total, then_total}
use Rattle.std.proofs.lemmas.List.Sorted.{ranks_by, sorted_far}
use Rattle.fence.specs.declared.token.Token.{Token}
use Rattle.fence.specs.Tokens.{IsBelow, IsEarlier}
use Rattle.store_writes.specs.declared.taken.Taken.{Taken}
use Rattle.store_writes.specs.internals.Firsts.{taken_cmp, token_cmp}

tokens_total : IsTotalOrder token_cmp
tokens_total = then_total (on_total (λ (t : Token). t.epoch) nat_cmp_total) (then_total (on_total (λ (t : Token). t.generation) nat_cmp_total) (on_total (λ (t : Token). t.life) nat_cmp_total))

taken_total : IsTotalOrder taken_cmp
taken_total =
    then_total (on_total (λ (t : Taken). t.revision) nat_cmp_total)
    (then_total (on_total (λ (t : Taken). t.token) tokens_total) (then_total (on_total (λ (t : Taken). t.key) nat_cmp_total) (on_total (λ (t : Taken). t.index) nat_cmp_total)))

-- a later one is not less than one before it
pub later_not_less : (taken : List Taken) → IsSorted taken_cmp taken → (i j : ℕ) (d : Taken) → i ≤ j → j < length taken
    → is_lt (taken_cmp (get_or taken j d) (get_or taken i d)) ≡ false
later_not_less taken up i j d order inside = sorted_far (λ x y. is_lt (taken_cmp x y)) (ranks_by taken_total (λ (t : Taken). t)) taken up i j d order inside

less_token : (a b : Token) → IsBelow a b → token_cmp a b ≡ Less
less_token a b (inl e) = ap (λ (o : Ordering). ordering_then o (ordering_then (nat_cmp a.generation b.generation) (nat_cmp a.life b.life))) (sym (nat_cmp_is a.epoch b.epoch Less e))
less_token a b (inr e) =
    ap (λ (o : Ordering). ordering_then o (ordering_then (nat_cmp a.generation b.generation) (nat_cmp a.life b.life))) (sym (nat_cmp_is a.epoch b.epoch Equal e.0)) ∙ in_epoch e.1
  where
    in_epoch : IsEarlier a b → ordering_then (nat_cmp a.generation b.generation) (nat_cmp a.life b.life) ≡ Less
    in_epoch (inl g) = ap (λ (o : Ordering). ordering_then o (nat_cmp a.life b.life)) (sym (nat_cmp_is a.generation b.generation Less g))
    in_epoch (inr g) = ap (λ (o : Ordering). ordering_then o (nat_cmp a.life b.life)) (sym (nat_cmp_is a.generation b.generation Equal g.0)) ∙ sym (nat_cmp_is a.life b.life Less g.1)

-- one of a lower revision is less
pub less_revision : (a b : Taken) → a.revision < b.revision → is_lt (taken_cmp a b) ≡ true
less_revision a b l =
    ap (λ (o : Ordering). is_lt (ordering_then o (ordering_then (token_cmp a.token b.token) (ordering_then (nat_cmp a.key b.key) (nat_cmp a.index b.index)))))
    (sym (nat_cmp_is a.revision b.revision Less l))

-- and so is one of the same revision with a lower token
less_in_revision : (a b : Taken) → a.revision ≡ b.revision → IsBelow a.token b.token → is_lt (taken_cmp a b) ≡ true
less_in_revision a b e below =
    ap (λ (o : Ordering). is_lt (ordering_then o (ordering_then (token_cmp a.token b.token) (ordering_then (nat_cmp a.key b.key) (nat_cmp a.index b.index)))))
    (sym (nat_cmp_is a.revision b.revision Equal e))
    ∙ ap (λ (o : Ordering). is_lt (ordering_then o (ordering_then (nat_cmp a.key b.key) (nat_cmp a.index b.index)))) (less_token a.token b.token below)

-- of two in their order, the second has a lower token only if the first has a lower revision
pub revision_below : (first second : Taken) → is_lt (taken_cmp second first) ≡ false → IsBelow second.token first.token → first.revision < second.revision
revision_below first second order below = by_revision (nat_lt first.revision second.revision) (nat_lt second.revision first.revision) refl refl
  where
    never : is_lt (taken_cmp second first) ≡ true → first.revision < second.revision
    never t = absurd (let h : true ≡ false = sym t ∙ order in cc)

    by_revision : (l m : Bool) → l ≡ nat_lt first.revision second.revision → m ≡ nat_lt second.revision first.revision → first.revision < second.revision
    by_revision true m e f = grind (arith, nat_tests)
    by_revision false true e f = never (less_revision second first (grind (arith, nat_tests)))
    by_revision false false e f = never (less_in_revision second first (grind (arith, nat_tests)) below)
