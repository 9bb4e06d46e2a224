-- What is known of levels that are written, and of those that are left, from the lowest key on.
use Rattle.std.proofs.Common.{◌≡◌, ℕ, ◌+◌, ◌<◌, ◌≤◌, [], ◌∷◌, ◌++◌, sym, ◌∙◌, inl, inr, arith}
use Rattle.std.proofs.lemmas.Bool.{lt-ltb, le-ltb, cases_lt}
use Rattle.slice_ranges.specs.Levels.{Levels, value_after, LevelsRise, LevelsStartAt}
use Rattle.slice_ranges.proofs.Leveling.{value_below, levels_start, levels_bounds}
use Rattle.key_handle.specs.internals.Sweeping.{HeadsLevels, IsPastLevel}

pub levels_below : {V : Type 0} (low : ℕ) (levels : Levels V) (high m : ℕ) → LevelsRise low levels high → high ≤ m → LevelsRise low levels m
levels_below low [] high m r h = omega arith
levels_below low (s ∷ levels) high m r h = (r.0, levels_below (s.0 + 1) levels high m r.1 h)

levels_push : {V : Type 0} (low : ℕ) (levels : Levels V) (high m : ℕ) (v : V) → LevelsRise low levels high → high ≤ m → LevelsRise low (levels ++ (m, v) ∷ []) (m + 1)
levels_push low [] high m v r h = (omega arith, omega arith)
levels_push low (s ∷ levels) high m v r h = (r.0, levels_push (s.0 + 1) levels high m v r.1 h)

value_push_below : {V : Type 0} (u : V) (levels : Levels V) (m : ℕ) (v : V) (k : ℕ) → k < m → value_after u (levels ++ (m, v) ∷ []) k ≡ value_after u levels k
value_push_below u [] m v k l = rw (lt-ltb k m l)
value_push_below u (s ∷ levels) m v k l = rw (value_push_below s.1 levels m v k l)

value_push_above : {V : Type 0} (u : V) (low : ℕ) (levels : Levels V) (high m : ℕ) (v : V) (k : ℕ) → LevelsRise low levels high → high ≤ m → m ≤ k → value_after u (levels ++ (m, v) ∷ []) k ≡ v
value_push_above u low [] high m v k r h l = rw (le-ltb k m l)
value_push_above u low (s ∷ levels) high m v k r h l =
    let q : s.0 + 1 ≤ high = levels_bounds (s.0 + 1) levels high r.1 in
    let p : s.0 ≤ k = omega arith in
    rw (le-ltb k s.0 p) (value_push_above s.1 (s.0 + 1) levels high m v k r.1 h l)

-- the rest of some levels, and the value at p, after all levels below p
pub record IsRestOfLevels {V : Type 0} (none : V) (all : Levels V) (value : V) (rest : Levels V) (p high : ℕ) : Type 0 where
  pub same : (k : ℕ) → p ≤ k → value_after none all k ≡ value_after value rest k
  pub rises : LevelsRise p rest high

pub levels_until : {V : Type 0} (none : V) (all : Levels V) (value : V) (rest : Levels V) (p m high k : ℕ)
    → IsRestOfLevels none all value rest p high → LevelsStartAt m rest → p ≤ k → k < m → value_after none all k ≡ value
levels_until none all value rest p m high k r h l g = r.same k l ∙ value_below value rest m k h g

pub levels_past : {V : Type 0} (none : V) (all : Levels V) (value : V) (rest : Levels V) (p m high : ℕ) (now : V) (next : Levels V)
    → IsRestOfLevels none all value rest p high → LevelsStartAt m rest → p ≤ m → m < high → IsPastLevel m value rest now next
    → IsRestOfLevels none all now next (m + 1) high × (value_after none all m ≡ now)
levels_past none all value [] p m high now next r h l q e =
    (record { same = λ k g. rw (e.0, e.1) (r.same k (omega arith)); rises = rw e.1 (omega arith) }, rw e.0 (r.same m l))
levels_past none all value (s ∷ levels) p m high now next r h l q (inl e) = (
  record {
    same = λ k g. rw (e.1, e.2) (let b : s.0 ≤ k = omega (arith, e.0) in rw (le-ltb k s.0 b) at (r.same k (omega arith)));
    rises = rw (e.2, e.0) r.rises.1;
  },
  (let b : s.0 ≤ m = omega (arith, e.0) in rw e.1 ((rw (le-ltb m s.0 b) at (r.same m l)) ∙ value_below s.1 levels (s.0 + 1) m (levels_start (s.0 + 1) levels high r.rises.1) (omega (arith, e.0)))),
)
levels_past none all value (s ∷ levels) p m high now next r h l q (inr e) =
    let above : m + 1 ≤ s.0 = omega (arith, e.0, h) in (
      record {
        same = λ k g. rw (e.1, e.2) (r.same k (omega arith));
        rises = rw e.2 (above, r.rises.1);
      },
      rw e.1 (r.same m l ∙ value_below value (s ∷ levels) (m + 1) m above (omega arith)),
    )

pub levels_heads : {V : Type 0} (p m : ℕ) (rest : Levels V) (high : ℕ) → LevelsRise p rest high → HeadsLevels m rest → (p ≤ m) × (m < high)
levels_heads p m [] high r h = absurd h
levels_heads p m (s ∷ levels) high r h = let q : s.0 + 1 ≤ high = levels_bounds (s.0 + 1) levels high r.1 in (omega (arith, r.0, h), omega (arith, h))

-- what was written up to p
pub record IsWritten {V : Type 0} (none : V) (out : Levels V) (last : V) (p : ℕ) (want : ℕ → V) : Type 0 where
  pub done : (k : ℕ) → k < p → value_after none out k ≡ want k
  pub after : (k : ℕ) → p ≤ k → value_after none out k ≡ last
  pub rises : LevelsRise 0 out p

module _ {V : Type 0} (none : V) (out : Levels V) (last : V) (p m : ℕ) (want : ℕ → V) (w : IsWritten none out last p want) (l : p ≤ m) (between : (k : ℕ) → p ≤ k → k < m → want k ≡ last) where
  up_to : (k : ℕ) → k < m → value_after none out k ≡ want k
  up_to k b = elim (cases_lt k p) [ inl below ↦ w.done k below | inr above ↦ w.after k above ∙ sym (between k above b) ]

  -- nothing is written where the value stays
  pub written_same : want m ≡ last → IsWritten none out last (m + 1) want
  written_same at = record {
    done = λ k g. elim (cases_lt k m) [ inl b ↦ up_to k b | inr b ↦ let e : k ≡ m = omega arith in w.after k (omega arith) ∙ sym (rw e at) ];
    after = λ k g. w.after k (omega arith);
    rises = levels_below 0 out p (m + 1) w.rises (omega arith);
  }

  -- a level is written where it may change
  pub written_level : (v : V) → want m ≡ v → IsWritten none (out ++ (m, v) ∷ []) v (m + 1) want
  written_level v at = record {
    done = λ k g. elim (cases_lt k m) [
      | inl b ↦ value_push_below none out m v k b ∙ up_to k b
      | inr b ↦ let e : k ≡ m = omega arith in value_push_above none 0 out p m v k w.rises l b ∙ sym (rw e at)
    ];
    after = λ k g. value_push_above none 0 out p m v k w.rises l (omega arith);
    rises = levels_push 0 out p m v w.rises l;
  }
