-- Stamps say what was kept.
use Rattle.std.proofs.Common.{◌≡◌, ◌∙◌, ℕ, suc, ◌+◌, ◌<◌, ◌≤◌, Bool, true, false, List, [], ◌∷◌, ◌++◌, length, refl, sym, ap, inl, inr, ◌⊎◌, arith, length-append}
use Rattle.std.proofs.lemmas.Bool.{le-leb, lt-leb, cases_lt, true≢false}
use Rattle.std.proofs.lemmas.Bool.Decides.{nat_tests}
use Rattle.std.specs.Prelude.{Option, Some, None, IsTrue, ◌==◌, ◌&&◌, nat_le, if◌then◌else◌, MatchBool}
use Rattle.lease_rule.proofs.Permitting.{permitted_down, permitted_at_last}
use Rattle.grants.specs.declared.values.Grant.{Grant}
use Rattle.key_handle.specs.declared.handle.KeyHandle.{KeyHandle}
use Rattle.key_handle.specs.Stamps.{stamp_after_change}
use Rattle.key_handle.specs.Handles.{is_up_to}
use Rattle.grants.specs.declared.slicelet_call.SliceletCall.{SliceletCall}
use Rattle.slicelet.specs.Calls.{reading_of, life_of, this_process}
use Rattle.slicelet.specs.Rules.{holding_after, is_permitted}
use Rattle.slicelet.specs.Continuity.{IsKeptSince, IsContinuous}
use Rattle.slicelet.specs.Stamping.{turns, stamp_after, stamp_of}
use Rattle.slicelet.proofs.Processes.{permitted_in_process}

-- each call after the first n found the key permitted just before it and just after it
abbrev kept : ℕ → List (Bool × Bool) → Bool
kept n [] = true
kept n (t ∷ h) = if nat_le n (length h) then t.0 && (t.1 && kept n h) else true

-- whether the key was permitted just after the newest call
abbrev pub after_last : List (Bool × Bool) → Bool
after_last [] = false
after_last (t ∷ h) = t.1

-- between two calls permission only fades: what is permitted just before a call was permitted just after the one before it
abbrev Fades : List (Bool × Bool) → Type 0
Fades [] = Unit {0}
Fades (t ∷ h) = (t.0 ≡ true → after_last h ≡ true) × Fades h

-- the stamp of a key that is permitted is the number of one of the calls
record HasStamp (o : Option ℕ) (most : ℕ) : Type 0 where
  stamp : ℕ
  is : o ≡ Some stamp
  at_most : stamp ≤ most

one : (h : List (Bool × Bool)) (o : Option ℕ) → (o ≡ None) ⊎ HasStamp o (length h) → HasStamp (stamp_after_change o true true (length h + 1)) (suc (length h))
one h None s = record { stamp = length h + 1; is = refl; at_most = omega arith }
one h (Some x) (inl e) = absurd (cc)
one h (Some x) (inr s) = record { stamp = s.stamp; is = s.is; at_most = omega (arith, s.at_most) }

any_stamp : (h : List (Bool × Bool)) → (stamp_after h ≡ None) ⊎ HasStamp (stamp_after h) (length h)
any_stamp [] = inl refl
any_stamp ((before, false) ∷ h) = inl refl
any_stamp ((false, true) ∷ h) = inr (record { stamp = length h + 1; is = refl; at_most = omega arith })
any_stamp ((true, true) ∷ h) = inr (one h (stamp_after h) (any_stamp h))

has_stamp : (h : List (Bool × Bool)) → after_last h ≡ true → HasStamp (stamp_after h) (length h)
has_stamp [] e = absurd (cc)
has_stamp ((before, false) ∷ h) e = absurd (cc)
has_stamp ((false, true) ∷ h) e = record { stamp = length h + 1; is = refl; at_most = omega arith }
has_stamp ((true, true) ∷ h) e = one h (stamp_after h) (any_stamp h)

-- a key that the newest call left without permission has no stamp
no_stamp : (h : List (Bool × Bool)) → after_last h ≡ false → stamp_after h ≡ None
no_stamp [] e = refl
no_stamp ((before, false) ∷ h) e = refl
no_stamp ((before, true) ∷ h) e = absurd (cc)

-- where permission is what the newest call left, the stamp stays
pub stamp_unchanged : (h : List (Bool × Bool)) (permitted : Bool) (stamp : ℕ) → after_last h ≡ permitted → stamp_after h ≡ stamp_after_change (stamp_after h) permitted permitted stamp
stamp_unchanged h false stamp e = no_stamp h e
stamp_unchanged h true stamp e = let s = has_stamp h e in rw s.is refl

-- a key with a stamp keeps it while it stays permitted
stamp_stays : (n stamp : ℕ) (o : Option ℕ) (m : ℕ) → o ≡ Some stamp → is_up_to n (stamp_after_change o true true m) ≡ is_up_to n o
stamp_stays n stamp None m e = absurd (cc)
stamp_stays n stamp (Some x) m e = refl

up_to_one : (n m : ℕ) (o : Option ℕ) → (o ≡ None) ⊎ HasStamp o m → m < n → is_up_to n (stamp_after_change o true true (m + 1)) ≡ true
up_to_one n m None s l = le-leb (m + 1) n (omega arith)
up_to_one n m (Some x) (inl e) l = absurd (cc)
up_to_one n m (Some x) (inr s) l = let e : x ≡ s.stamp = let f : Some x ≡ Some s.stamp = s.is in cc in le-leb x n (omega (arith, s.at_most))

-- where the newest call left the key permitted
kept_as_stamped : (n : ℕ) (h : List (Bool × Bool)) → Fades h → after_last h ≡ true → is_up_to n (stamp_after h) ≡ kept n h
kept_as_stamped n [] f e = absurd (cc)
kept_as_stamped n ((before, false) ∷ h) f e = absurd (cc)
kept_as_stamped n ((false, true) ∷ h) f e = elim (cases_lt (length h) n) [
  | inl last ↦ rw (lt-leb n (length h) last) (le-leb (length h + 1) n (omega arith))
  | inr within ↦ rw (le-leb n (length h) within) (lt-leb (length h + 1) n (omega arith))
]
kept_as_stamped n ((true, true) ∷ h) f e = elim (cases_lt (length h) n) [
  | inl last ↦ rw (lt-leb n (length h) last) (up_to_one n (length h) (stamp_after h) (any_stamp h) last)
  | inr within ↦ (let s = has_stamp h (f.0 refl) in rw (le-leb n (length h) within) (stamp_stays n s.stamp (stamp_after h) (length h + 1) s.is ∙ kept_as_stamped n h f.1 (f.0 refl)))
]

-- what is permitted at a reading was permitted just after the newest call
permitted_after_last : (covers : Grant → Bool) (h : List SliceletCall) (at : ℕ) → is_permitted covers h at ≡ true → after_last (turns covers h) ≡ true
permitted_after_last covers [] at e = absurd (true≢false (sym e ∙ permitted_down (holding_after covers []) at refl))
permitted_after_last covers (c ∷ h) at e = permitted_at_last (holding_after covers (c ∷ h)) at e

fades : (covers : Grant → Bool) (h : List SliceletCall) → Fades (turns covers h)
fades covers [] = tt
fades covers (c ∷ h) = (λ e. permitted_after_last covers h (reading_of c) e, fades covers h)

pub length-turns : (covers : Grant → Bool) (h : List SliceletCall) → length (turns covers h) ≡ length h
length-turns covers [] = refl
length-turns covers (c ∷ h) = ap suc (length-turns covers h)

-- nothing is asked of calls before the position
none_since : (position : ℕ) (covers : Grant → Bool) (h : List SliceletCall) → length h ≤ position → IsKeptSince position covers h
none_since position covers h l later before c e g =
    absurd (let lengths : length h ≡ length later + length (c ∷ before) = ap (λ (xs : List SliceletCall). length xs) e ∙ length-append later (c ∷ before) in omega (arith, lengths, l, g))

kept_with : (position : ℕ) (covers : Grant → Bool) (h : List SliceletCall) (c : SliceletCall) → IsKeptSince position covers h
    → IsTrue (is_permitted covers h (reading_of c)) × IsTrue (is_permitted covers (c ∷ h) (reading_of c)) → IsKeptSince position covers (c ∷ h)
kept_with position covers h c before new [] rest other e l =
    let calls : c ≡ other = cc in
    let same : h ≡ rest = cc in
    rw (sym calls, sym same) new
kept_with position covers h c before new (x ∷ later) rest other e l = before later rest other (let same : h ≡ later ++ other ∷ rest = cc in same) l

all_true : (a b c : Bool) → (a && (b && c)) ≡ true → (a ≡ true) × (b ≡ true) × (c ≡ true)
all_true true true true e = (refl, refl, refl)
all_true true true false e = absurd (cc)
all_true true false c e = absurd (cc)
all_true false b c e = absurd (cc)

kept_past : (n : ℕ) (t : Bool × Bool) (h : List (Bool × Bool)) → length h < n → kept n (t ∷ h) ≡ true
kept_past n t h l = rw (lt-leb n (length h) l) refl

kept_parts : (n : ℕ) (t : Bool × Bool) (h : List (Bool × Bool)) → n ≤ length h → kept n (t ∷ h) ≡ true → (t.0 ≡ true) × (t.1 ≡ true) × (kept n h ≡ true)
kept_parts n t h l e = all_true t.0 t.1 (kept n h) (rw (le-leb n (length h) l) at e)

kept_whole : (n : ℕ) (t : Bool × Bool) (h : List (Bool × Bool)) → n ≤ length h → t.0 ≡ true → t.1 ≡ true → kept n h ≡ true → kept n (t ∷ h) ≡ true
kept_whole n t h l before after e = rw (le-leb n (length h) l, before, after, e) refl

abbrev turn_of : (covers : Grant → Bool) (c : SliceletCall) (h : List SliceletCall) → Bool × Bool
turn_of covers c h = (is_permitted covers h (reading_of c), is_permitted covers (c ∷ h) (reading_of c))

kept_calls : (position : ℕ) (covers : Grant → Bool) (h : List SliceletCall) → kept position (turns covers h) ≡ true → IsKeptSince position covers h
kept_calls position covers [] e = none_since position covers [] (omega arith)
kept_calls position covers (c ∷ h) e = elim (cases_lt (length h) position) [
  | inl past ↦ none_since position covers (c ∷ h) (omega arith)
  | inr within ↦ (let parts = kept_parts position (turn_of covers c h) (turns covers h) (rw (length-turns covers h) within) e in
      kept_with position covers h c (kept_calls position covers h parts.2) (parts.0, parts.1))
]

calls_kept : (position : ℕ) (covers : Grant → Bool) (h : List SliceletCall) → IsKeptSince position covers h → kept position (turns covers h) ≡ true
calls_kept position covers [] k = refl
calls_kept position covers (c ∷ h) k = elim (cases_lt (length h) position) [
  | inl past ↦ kept_past position (turn_of covers c h) (turns covers h) (rw (length-turns covers h) past)
  | inr within ↦ (let newest = k [] h c refl within in
      let older = calls_kept position covers h (λ later before other e l. k (c ∷ later) before other (ap (λ (xs : List SliceletCall). c ∷ xs) e) l) in
      kept_whole position (turn_of covers c h) (turns covers h) (rw (length-turns covers h) within) newest.0 newest.1 older)
]

-- a handle is continuous where the stamp of its key is not above its position, and the key is permitted
pub continuous_as_stamped : (covers : Grant → Bool) (h : List SliceletCall) (handle : KeyHandle) (at life : ℕ) (stamp : Option ℕ) (is_kept permitted : Bool) → life ≡ life_of h → stamp ≡ stamp_of covers h
    → is_kept ≡ (handle.life == life && is_up_to handle.position stamp) → permitted ≡ is_permitted covers h at
    → MatchBool (is_kept && permitted) (IsContinuous covers h handle at) (IsContinuous covers h handle at → ⊥)
continuous_as_stamped covers h handle at life stamp is_kept permitted lives stamped keeps permits =
    rw (keeps, permits) (by_tests (handle.life == life) (is_up_to handle.position stamp) (is_permitted covers h at) refl refl refl)
  where
    same : is_permitted covers h at ≡ true → is_up_to handle.position stamp ≡ kept handle.position (turns covers (this_process h))
    same e =
        let now = permitted_after_last covers (this_process h) at (permitted_in_process covers h at ∙ e) in
        rw stamped (kept_as_stamped handle.position (turns covers (this_process h)) (fades covers (this_process h)) now)

    by_tests : (a b c : Bool) → (handle.life == life) ≡ a → is_up_to handle.position stamp ≡ b → is_permitted covers h at ≡ c
        → MatchBool ((a && b) && c) (IsContinuous covers h handle at) (IsContinuous covers h handle at → ⊥)
    by_tests true true true p q r =
        let lives_alike : handle.life ≡ life = grind (arith, nat_tests) in
        record { life = lives_alike ∙ lives; kept = kept_calls handle.position covers (this_process h) (sym (same r) ∙ q); now = r }
    by_tests true true false p q r = λ k. absurd (true≢false (sym k.now ∙ r))
    by_tests true false c p q r = λ k. absurd (true≢false (sym (same k.now ∙ calls_kept handle.position covers (this_process h) k.kept) ∙ q))
    by_tests false b c p q r = λ k.
        absurd (let e : handle.life ≡ life = k.life ∙ sym lives in let f : (handle.life == life) ≡ true = grind (arith, nat_tests) in true≢false (sym f ∙ p))
