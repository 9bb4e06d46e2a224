-- The call that breaks a handle, among the calls of its process.
use Rattle.std.proofs.Common.{◌≡◌, ◌∙◌, ℕ, ◌<◌, ◌≤◌, Bool, true, false, List, [], ◌∷◌, ◌++◌, length, refl, sym, ap, subst, arith}
use Rattle.std.specs.Prelude.{◌==◌, ◌&&◌, Result, Ok, IsTrue}
use Rattle.std.proofs.lemmas.Bool.Decides.{nat_tests}
use Rattle.slice_ranges.specs.declared.key.TheConstants.{KEYS}
use Rattle.grants.specs.declared.slicelet_call.SliceletCall.{SliceletCall}
use Rattle.grants.specs.declared.slicelet_error.Stranger.{Stranger}
use Rattle.key_handle.specs.declared.handle.KeyHandle.{KeyHandle}
use Rattle.slicelet.specs.Accepted.{StandsAfter}
use Rattle.slicelet.specs.Calls.{reading_of, this_process}
use Rattle.slicelet.specs.Continuity.{checked_in, IsChecked, IsContinuous, IsKeptSince}
use Rattle.slicelet.specs.Rules.{covers_key, is_permitted}
use Rattle.slicelet.specs.States.{SliceletState}
use Rattle.reasons.specs.Breaking.{taken_after, IsBreakingCall, IsLastDenied}
use Rattle.reasons.proofs.Breaking.{continuous_facts}

-- the element of a list with so many behind it
record Split (xs : List SliceletCall) (n : ℕ) : Type 0 where
  later : List SliceletCall
  made : SliceletCall
  before : List SliceletCall
  parts : xs ≡ later ++ made ∷ before
  many : length before ≡ n

split : (xs : List SliceletCall) (n : ℕ) → n < length xs → Split xs n
split [] n l = absurd (omega (arith, l))
split (x ∷ xs) n l = by_test (length xs == n) refl (λ m. split xs n m)
  where
    by_test : (b : Bool) → (length xs == n) ≡ b → (n < length xs → Split xs n) → Split (x ∷ xs) n
    by_test true t rest = record { later = []; made = x; before = xs; parts = refl; many = grind (arith, nat_tests) }
    by_test false t rest =
        let other : n < length xs = grind (arith, nat_tests) in
        let s = rest other in
        record { later = x ∷ s.later; made = s.made; before = s.before; parts = ap (λ (ys : List SliceletCall). x ∷ ys) s.parts; many = s.many }

length_parts : (later : List SliceletCall) (c : SliceletCall) (before : List SliceletCall) → length before < length (later ++ c ∷ before)
length_parts [] c before = omega arith
length_parts (x ∷ later) c before = (let more = length_parts later c before in omega (arith, more))

-- two splits of a list at one place are the same
same_split : (later : List SliceletCall) (c : SliceletCall) (before later' : List SliceletCall) (c' : SliceletCall) (before' : List SliceletCall)
    → later ++ c ∷ before ≡ later' ++ c' ∷ before' → length before ≡ length before' → (c ≡ c') × (before ≡ before')
same_split [] c before [] c' before' e l = (cc, cc)
same_split [] c before (y ∷ later') c' before' e l =
    let tails : before ≡ later' ++ c' ∷ before' = cc in
    let longer = length_parts later' c' before' in
    absurd (let m : length before ≡ length (later' ++ c' ∷ before') = ap length tails in omega (arith, l, m, longer))
same_split (x ∷ later) c before [] c' before' e l =
    let tails : later ++ c ∷ before ≡ before' = cc in
    let longer = length_parts later c before in
    absurd (let m : length (later ++ c ∷ before) ≡ length before' = ap length tails in omega (arith, l, m, longer))
same_split (x ∷ later) c before (y ∷ later') c' before' e l = same_split later c before later' c' before' (let tails : later ++ c ∷ before ≡ later' ++ c' ∷ before' = cc in tails) l

module _ (calls : List SliceletCall) (s : SliceletState) (handle : KeyHandle) (at call : ℕ) (stands : StandsAfter calls s) (inside : handle.key < KEYS)
    (checks : (h : KeyHandle) → h.key < KEYS → IsChecked s.task calls h at (checked_in s h at)) (b : IsBreakingCall s handle at call) where
  abbrev process : List SliceletCall
  process = this_process calls

  abbrev permitted : List SliceletCall → SliceletCall → Bool
  permitted h c = is_permitted (covers_key handle.key) h (reading_of c)

  asked : (h : KeyHandle) (r : Result Bool Stranger) → h.key < KEYS → checked_in s h at ≡ r → IsChecked s.task calls h at r
  asked h r l e = subst (λ (x : Result Bool Stranger). IsChecked s.task calls h at x) e (checks h l)

  after : IsContinuous (covers_key handle.key) calls (taken_after call handle) at
  after = (asked (taken_after call handle) (Ok true) inside b.continuous_after).1

  not_before : IsContinuous (covers_key handle.key) calls (taken_after b.before handle) at → ⊥
  not_before = (asked (taken_after b.before handle) (Ok false) inside b.broken_before).1

  many : s.count ≡ length process
  many = ap (λ (x : SliceletState). x.count) stands.state

  within : b.before < length process
  within = let l = (continuous_facts s handle at call b.continuous_after).0 in let e = b.just_before in omega (arith, many, l, e)

  parts : Split process b.before
  parts = split process b.before within

  -- if the call found the key permitted, a handle given just before it would be continuous
  kept_before : permitted parts.before parts.made ≡ true → permitted (parts.made ∷ parts.before) parts.made ≡ true
      → IsKeptSince b.before (covers_key handle.key) process
  kept_before just_before just_after later before c e l = by_test (length before == b.before) refl
    where
      by_test : (same : Bool) → (length before == b.before) ≡ same → IsTrue (permitted before c) × IsTrue (permitted (c ∷ before) c)
      by_test false t =
          let others : call ≤ length before = (let f : b.before < length before = grind (arith, nat_tests) in let e2 = b.just_before in omega (arith, f, e2)) in
          after.kept later before c e others
      by_test true t =
          let lengths : length before ≡ length parts.before = (let f : length before ≡ b.before = grind (arith, nat_tests) in f ∙ sym parts.many) in
          let same = same_split later c before parts.later parts.made parts.before (sym e ∙ parts.parts) lengths in
          let first : permitted before c ≡ true = ap (λ (h : List SliceletCall). permitted h c) same.1 ∙ (ap (λ (x : SliceletCall). permitted parts.before x) same.0 ∙ just_before) in
          let second : permitted (c ∷ before) c ≡ true =
          ap (λ (h : List SliceletCall). permitted (c ∷ h) c) same.1 ∙ (ap (λ (x : SliceletCall). permitted (x ∷ parts.before) x) same.0 ∙ just_after) in
          (first, second)

  denied : (first second : Bool) → permitted parts.before parts.made ≡ first → permitted (parts.made ∷ parts.before) parts.made ≡ second → first && second ≡ false
  denied true true f g = absurd (not_before (record { life = after.life; kept = kept_before f g; now = after.now }))
  denied true false f g = refl
  denied false second f g = refl

  pub last_denied : IsLastDenied process handle.key call
  last_denied = record {
    later = parts.later;
    made = parts.made;
    before = parts.before;
    parts = parts.parts;
    number = (let e = b.just_before in let m = parts.many in omega (arith, e, m));
    denied = denied (permitted parts.before parts.made) (permitted (parts.made ∷ parts.before) parts.made) refl refl;
    last = after.kept;
  }
