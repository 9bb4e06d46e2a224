-- What a sweep over two lists of boundaries keeps.
use Rattle.std.proofs.Common.{◌≡◌, ℕ, ◌+◌, ◌<◌, ◌≤◌, Bool, true, false, not, List, [], ◌∷◌, ◌++◌, refl, sym, ◌∙◌, inl, inr, arith}
use Rattle.std.proofs.lemmas.Bool.{le-ltb, cases_lt}
use mathlib.Core.Bool.{beq}
use Rattle.slice_ranges.specs.declared.key.TheConstants.{KEYS}
use Rattle.slice_ranges.specs.declared.sweep.Operation.{Operation}
use Rattle.slice_ranges.specs.declared.sweep.Operation.TheVariants.{Both, Either, Without}
use Rattle.slice_ranges.specs.Sets.{inside_after, has, Rises, IsRanges}
use Rattle.slice_ranges.specs.Passing.{StartsAt, Heads, IsNext, IsPast}
use Rattle.slice_ranges.specs.internals.Sweeps.{apply}
use Rattle.slice_ranges.proofs.Boundaries.{inside_below, rises_starts, rises_below, rises_bounds}
use Rattle.slice_ranges.proofs.Writing.{IsMade, writing_same, writing_turn}

-- the rest of a list, and the membership at p, after all boundaries below p
pub record IsRest (all : List ℕ) (inside : Bool) (rest : List ℕ) (p high : ℕ) : Type 0 where
  pub same : (k : ℕ) → p ≤ k → has all k ≡ inside_after inside rest k
  pub rises : Rises p rest high

-- the next boundary of a list is at m or above
pub rest_until : (all : List ℕ) (inside : Bool) (rest : List ℕ) (p m high k : ℕ) → IsRest all inside rest p high → StartsAt m rest → p ≤ k → k < m → has all k ≡ inside
rest_until all inside rest p m high k r h l g = r.same k l ∙ inside_below inside rest m k h g

pub rest_past : (all : List ℕ) (inside : Bool) (rest : List ℕ) (p m high : ℕ) (now : Bool) (next : List ℕ)
    → IsRest all inside rest p high → StartsAt m rest → p ≤ m → m < high → IsPast m inside rest now next → IsRest all now next (m + 1) high × (has all m ≡ now)
rest_past all inside [] p m high now next r h l q e =
    (record { same = λ k g. rw (e.0, e.1) (r.same k (omega arith)); rises = rw e.1 (omega arith) }, rw e.0 (r.same m l))
rest_past all inside (b ∷ bs) p m high now next r h l q (inl e) = (
  record {
    same = λ k g. rw (e.1, e.2) (let s : b ≤ k = omega (arith, e.0) in rw (le-ltb k b s) at (r.same k (omega arith)));
    rises = rw (e.2, e.0) r.rises.1;
  },
  (let s : b ≤ m = omega (arith, e.0) in rw e.1 ((rw (le-ltb m b s) at (r.same m l)) ∙ inside_below (not inside) bs (b + 1) m (rises_starts (b + 1) bs high r.rises.1) (omega (arith, e.0)))),
)
rest_past all inside (b ∷ bs) p m high now next r h l q (inr e) =
    let above : m + 1 ≤ b = omega (arith, e.0, h) in (
      record {
        same = λ k g. rw (e.1, e.2) (r.same k (omega arith));
        rises = rw e.2 (above, r.rises.1);
      },
      rw e.1 (r.same m l ∙ inside_below inside (b ∷ bs) (m + 1) m above (omega arith)),
    )

-- a sweep that has come to p
pub record IsSweep (f : Bool → Bool → Bool) (first second : List ℕ) (high : ℕ) (in_a : Bool) (a : List ℕ) (in_b : Bool) (b out : List ℕ) (inside : Bool) (p : ℕ) : Type 0 where
  pub first_rest : IsRest first in_a a p high
  pub second_rest : IsRest second in_b b p high
  pub writing : IsMade out inside p (λ k. f (has first k) (has second k))
  pub now : inside ≡ f in_a in_b

-- the first boundary of what is left is at p or above
pub head_bounds : (p m : ℕ) (rest : List ℕ) (high : ℕ) → Rises p rest high → Heads m rest → (p ≤ m) × (m < high)
head_bounds p m [] high r h = absurd h
head_bounds p m (b ∷ bs) high r h = let q : b + 1 ≤ high = rises_bounds (b + 1) bs high r.1 in (omega (arith, r.0, h), omega (arith, h))

module _ (f : Bool → Bool → Bool) (first second : List ℕ) (high : ℕ) (in_a : Bool) (a : List ℕ) (in_b : Bool) (b out : List ℕ) (inside : Bool) (p m : ℕ) (now_a : Bool) (next_a : List ℕ) (now_b : Bool) (next_b : List ℕ)
    (s : IsSweep f first second high in_a a in_b b out inside p) (next : IsNext m a b) (past_a : IsPast m in_a a now_a next_a) (past_b : IsPast m in_b b now_b next_b) where
  bounds : (p ≤ m) × (m < high)
  bounds = elim next.heads [ inl h ↦ head_bounds p m a high s.first_rest.rises h | inr h ↦ head_bounds p m b high s.second_rest.rises h ]

  a_rest : IsRest first now_a next_a (m + 1) high × (has first m ≡ now_a)
  a_rest = rest_past first in_a a p m high now_a next_a s.first_rest next.first_starts bounds.0 bounds.1 past_a

  b_rest : IsRest second now_b next_b (m + 1) high × (has second m ≡ now_b)
  b_rest = rest_past second in_b b p m high now_b next_b s.second_rest next.second_starts bounds.0 bounds.1 past_b

  between : (k : ℕ) → p ≤ k → k < m → f (has first k) (has second k) ≡ inside
  between k l g = rw (rest_until first in_a a p m high k s.first_rest next.first_starts l g, rest_until second in_b b p m high k s.second_rest next.second_starts l g) (sym s.now)

  at : f (has first m) (has second m) ≡ f now_a now_b
  at = rw (a_rest.1, b_rest.1) refl

  pub sweep_same : f now_a now_b ≡ inside → IsSweep f first second high now_a next_a now_b next_b out inside (m + 1)
  sweep_same e = record {
    first_rest = a_rest.0;
    second_rest = b_rest.0;
    writing = writing_same out inside p m (λ k. f (has first k) (has second k)) s.writing bounds.0 between (at ∙ e);
    now = sym e;
  }

  pub sweep_turn : (taken_at : Bool) → taken_at ≡ f now_a now_b → taken_at ≡ not inside → IsSweep f first second high now_a next_a now_b next_b (out ++ m ∷ []) taken_at (m + 1)
  sweep_turn taken_at same e = record {
    first_rest = a_rest.0;
    second_rest = b_rest.0;
    writing = rw e (writing_turn out inside p m (λ k. f (has first k) (has second k)) s.writing bounds.0 between (at ∙ sym same ∙ e));
    now = same;
  }

-- the sweep is at its end where no boundary is left
sweep_end : (f : Bool → Bool → Bool) (first second : List ℕ) (high : ℕ) (in_a : Bool) (in_b : Bool) (out : List ℕ) (inside : Bool) (p : ℕ)
    → IsSweep f first second high in_a [] in_b [] out inside p → (k : ℕ) → has out k ≡ f (has first k) (has second k)
sweep_end f first second high in_a in_b out inside p s k = elim (cases_lt k p) [
  | inl below ↦ s.writing.before k below
  | inr above ↦ rw (s.first_rest.same k above, s.second_rest.same k above, s.writing.after k above) s.now
]

apply_none : (operation : Operation) → false ≡ apply operation false false
apply_none Both = refl
apply_none Either = refl
apply_none Without = refl

pub sweep_start : (operation : Operation) (first second out : List ℕ) → IsRanges first → IsRanges second → out ≡ [] → IsSweep (apply operation) first second (KEYS + 1) false first false second out false 0
sweep_start operation first second out r s e = record {
  first_rest = record { same = λ k g. refl; rises = r.rises };
  second_rest = record { same = λ k g. refl; rises = s.rises };
  writing = rw e (record { before = λ k g. absurd (omega arith); after = λ k g. refl; rises = omega arith });
  now = apply_none operation;
}

-- what the test `!=` of two flags says
pub same_flag : (x y : Bool) → not (beq x y) ≡ false → x ≡ y
same_flag true true e = refl
same_flag false false e = refl
same_flag true false e = absurd (cc)
same_flag false true e = absurd (cc)

pub other_flag : (x y : Bool) → not (beq x y) ≡ true → x ≡ not y
other_flag true true e = absurd (cc)
other_flag false false e = absurd (cc)
other_flag true false e = refl
other_flag false true e = refl

pub sweep_ranges : (operation : Operation) (first second : List ℕ) (in_a : Bool) (a : List ℕ) (in_b : Bool) (b out : List ℕ) (inside : Bool) (p : ℕ)
    → IsRanges first → IsRanges second → IsSweep (apply operation) first second (KEYS + 1) in_a a in_b b out inside p → a ≡ [] → b ≡ [] → IsRanges out × ((k : ℕ) → has out k ≡ apply operation (has first k) (has second k))
sweep_ranges operation first second in_a a in_b b out inside p r s w e g =
    let w' : IsSweep (apply operation) first second (KEYS + 1) in_a [] in_b [] out inside p = rw (e, g) at w in
    let keys = sweep_end (apply operation) first second (KEYS + 1) in_a in_b out inside p w' in
    (record { rises = rises_below 0 out p (KEYS + 1) w.writing.rises (rises_bounds p a (KEYS + 1) w.first_rest.rises); ends = keys KEYS ∙ (rw (r.ends, s.ends) (sym (apply_none operation))) }, keys)
