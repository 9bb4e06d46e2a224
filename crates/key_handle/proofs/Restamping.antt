-- What a sweep over stamps and two lists of boundaries keeps.
use Rattle.std.proofs.Common.{◌≡◌, ℕ, ◌+◌, ◌<◌, ◌≤◌, Bool, false, not, eqb, List, [], ◌∷◌, ◌++◌, length, Option, Some, None, refl, sym, ap, ◌∙◌, inl, inr, arith}
use Rattle.std.proofs.lemmas.Bool.{cases_lt, not-false, eqb-true}
use Rattle.std.specs.Option.{option_eq}
use Rattle.slice_ranges.specs.declared.key.TheConstants.{KEYS}
use Rattle.slice_ranges.specs.Sets.{has, IsRanges}
use Rattle.slice_ranges.specs.Passing.{Heads, IsPast}
use Rattle.slice_ranges.proofs.Sweeping.{IsRest, rest_until, rest_past, head_bounds}
use Rattle.slice_ranges.proofs.Leveling.{levels_bounds}
use Rattle.key_handle.specs.Stamps.{Stamps, since, IsStamps, stamp_after_change}
use Rattle.key_handle.specs.internals.Sweeping.{HeadsLevels, IsNextOfThree, IsPastLevel}
use Rattle.key_handle.proofs.StampWriting.{IsRestOfLevels, levels_until, levels_past, levels_heads, levels_below, IsWritten, written_same, written_level}

abbrev wanted : Stamps → List ℕ → List ℕ → ℕ → ℕ → Option ℕ
wanted stamps before after stamp key = stamp_after_change (since stamps key) (has before key) (has after key) stamp

abbrev high : ℕ
high = KEYS + 1

-- a sweep that has come to p
pub record IsSweep (stamps : Stamps) (before after : List ℕ) (stamp : ℕ) (old : Option ℕ) (levels : Stamps) (in_a : Bool) (a : List ℕ) (in_b : Bool) (b : List ℕ) (out : Stamps) (last : Option ℕ) (p : ℕ) : Type 0 where
  pub levels_rest : IsRestOfLevels None stamps old levels p high
  pub before_rest : IsRest before in_a a p high
  pub after_rest : IsRest after in_b b p high
  pub writing : IsWritten None out last p (wanted stamps before after stamp)
  pub now : last ≡ stamp_after_change old in_a in_b stamp

pub sweep_start : (stamps : Stamps) (before after : List ℕ) (stamp : ℕ) (out : Stamps) → IsStamps stamps → IsRanges before → IsRanges after → out ≡ []
    → IsSweep stamps before after stamp None stamps false before false after out None 0
sweep_start stamps before after stamp out t r s e = record {
  levels_rest = record { same = λ k g. refl; rises = t };
  before_rest = record { same = λ k g. refl; rises = r.rises };
  after_rest = record { same = λ k g. refl; rises = s.rises };
  writing = rw e (record { done = λ k g. absurd (omega arith); after = λ k g. refl; rises = omega arith });
  now = refl;
}

module _ (stamps : Stamps) (before after : List ℕ) (stamp : ℕ) (old : Option ℕ) (levels : Stamps) (in_a : Bool) (a : List ℕ) (in_b : Bool) (b : List ℕ) (out : Stamps) (last : Option ℕ) (p m : ℕ)
    (now_old : Option ℕ) (next_levels : Stamps) (now_a : Bool) (next_a : List ℕ) (now_b : Bool) (next_b : List ℕ)
    (s : IsSweep stamps before after stamp old levels in_a a in_b b out last p) (next : IsNextOfThree m levels a b)
    (past_levels : IsPastLevel m old levels now_old next_levels) (past_a : IsPast m in_a a now_a next_a) (past_b : IsPast m in_b b now_b next_b) where
  bounds : (p ≤ m) × (m < high)
  bounds = elim next.heads [
    | inl h ↦ levels_heads p m levels high s.levels_rest.rises h
    | inr (inl h) ↦ head_bounds p m a high s.before_rest.rises h
    | inr (inr h) ↦ head_bounds p m b high s.after_rest.rises h
  ]

  old_past : IsRestOfLevels None stamps now_old next_levels (m + 1) high × (since stamps m ≡ now_old)
  old_past = levels_past None stamps old levels p m high now_old next_levels s.levels_rest next.levels_start bounds.0 bounds.1 past_levels

  a_past : IsRest before now_a next_a (m + 1) high × (has before m ≡ now_a)
  a_past = rest_past before in_a a p m high now_a next_a s.before_rest next.first_starts bounds.0 bounds.1 past_a

  b_past : IsRest after now_b next_b (m + 1) high × (has after m ≡ now_b)
  b_past = rest_past after in_b b p m high now_b next_b s.after_rest next.second_starts bounds.0 bounds.1 past_b

  between : (k : ℕ) → p ≤ k → k < m → wanted stamps before after stamp k ≡ last
  between k l g =
      let old_is = levels_until None stamps old levels p m high k s.levels_rest next.levels_start l g in
      let a_is = rest_until before in_a a p m high k s.before_rest next.first_starts l g in
      let b_is = rest_until after in_b b p m high k s.after_rest next.second_starts l g in
      rw (old_is, a_is, b_is) (sym s.now)

  at : wanted stamps before after stamp m ≡ stamp_after_change now_old now_a now_b stamp
  at = rw (old_past.1, a_past.1, b_past.1) refl

  pub sweep_same : (now : Option ℕ) → now ≡ stamp_after_change now_old now_a now_b stamp → now ≡ last → IsSweep stamps before after stamp now_old next_levels now_a next_a now_b next_b out last (m + 1)
  sweep_same now is e = record {
    levels_rest = old_past.0;
    before_rest = a_past.0;
    after_rest = b_past.0;
    writing = written_same None out last p m (wanted stamps before after stamp) s.writing bounds.0 between (at ∙ sym is ∙ e);
    now = sym e ∙ is;
  }

  pub sweep_level : (now : Option ℕ) → now ≡ stamp_after_change now_old now_a now_b stamp → IsSweep stamps before after stamp now_old next_levels now_a next_a now_b next_b (out ++ (m, now) ∷ []) now (m + 1)
  sweep_level now is = record {
    levels_rest = old_past.0;
    before_rest = a_past.0;
    after_rest = b_past.0;
    writing = written_level None out last p m (wanted stamps before after stamp) s.writing bounds.0 between now (at ∙ sym is);
    now = is;
  }

levels_past_length : {V : Type 0} (m : ℕ) (value : V) (rest : List (ℕ × V)) (now : V) (next : List (ℕ × V)) → IsPastLevel m value rest now next
    → (length next ≤ length rest) × (HeadsLevels m rest → length next < length rest)
levels_past_length m value [] now next e = (rw e.1 (omega arith), λ h. absurd h)
levels_past_length m value (s ∷ levels) now next (inl e) = (rw e.2 (omega arith), λ h. rw e.2 (omega arith))
levels_past_length m value (s ∷ levels) now next (inr e) = (rw e.2 (omega arith), λ h. absurd (e.0 h))

past_length : (m : ℕ) (inside : Bool) (rest : List ℕ) (now : Bool) (next : List ℕ) → IsPast m inside rest now next → (length next ≤ length rest) × (Heads m rest → length next < length rest)
past_length m inside [] now next e = (rw e.1 (omega arith), λ h. absurd h)
past_length m inside (b ∷ bs) now next (inl e) = (rw e.2 (omega arith), λ h. rw e.2 (omega arith))
past_length m inside (b ∷ bs) now next (inr e) = (rw e.2 (omega arith), λ h. absurd (e.0 h))

-- each turn passes a key
pub sweep_falls : (m : ℕ) (old : Option ℕ) (levels : Stamps) (in_a : Bool) (a : List ℕ) (in_b : Bool) (b : List ℕ) (now_old : Option ℕ) (next_levels : Stamps) (now_a : Bool) (next_a : List ℕ) (now_b : Bool) (next_b : List ℕ)
    → IsNextOfThree m levels a b → IsPastLevel m old levels now_old next_levels → IsPast m in_a a now_a next_a → IsPast m in_b b now_b next_b
    → length next_levels + (length next_a + length next_b) < length levels + (length a + length b)
sweep_falls m old levels in_a a in_b b now_old next_levels now_a next_a now_b next_b next past_levels past_a past_b =
    let x = levels_past_length m old levels now_old next_levels past_levels in
    let y = past_length m in_a a now_a next_a past_a in
    let z = past_length m in_b b now_b next_b past_b in
    elim next.heads [
      | inl h ↦ omega (arith, x.1 h, y.0, z.0)
      | inr (inl h) ↦ omega (arith, x.0, y.1 h, z.0)
      | inr (inr h) ↦ omega (arith, x.0, y.0, z.1 h)
    ]

-- the sweep is done where nothing is left
pub sweep_end : (stamps : Stamps) (before after : List ℕ) (stamp : ℕ) (old : Option ℕ) (levels : Stamps) (in_a : Bool) (a : List ℕ) (in_b : Bool) (b : List ℕ) (out : Stamps) (last : Option ℕ) (p : ℕ)
    → IsSweep stamps before after stamp old levels in_a a in_b b out last p → levels ≡ [] → a ≡ [] → b ≡ [] → IsStamps out × ((k : ℕ) → since out k ≡ wanted stamps before after stamp k)
sweep_end stamps before after stamp old levels in_a a in_b b out last p w c e g =
    let s : IsSweep stamps before after stamp old [] in_a [] in_b [] out last p = rw (c, e, g) at w in (
      levels_below 0 out p high s.writing.rises (levels_bounds {V = Option ℕ} p [] high s.levels_rest.rises),
      λ k. elim (cases_lt k p) [
        | inl below ↦ s.writing.done k below
        | inr above ↦ rw (s.writing.after k above, s.levels_rest.same k above, s.before_rest.same k above, s.after_rest.same k above) s.now
      ],
    )

pub same_stamp : (a b : Option ℕ) → false ≡ not (option_eq eqb a b) → a ≡ b
same_stamp None None e = refl
same_stamp None (Some y) e = absurd (cc)
same_stamp (Some x) None e = absurd (cc)
same_stamp (Some x) (Some y) e = ap Some (eqb-true x y (not-false _ (sym e)))
