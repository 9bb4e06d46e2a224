-- A held lease was heard, and the rule looks at what was heard alone.
use Rattle.std.proofs.Common.{◌≡◌, ◌∙◌, ℕ, ◌<◌, Bool, true, false, List, [], ◌∷◌, ◌++◌, length, refl, sym, ap, subst, arith}
use Rattle.std.proofs.lemmas.List.Elements.{Contains-append_right, Contains-get_or}
use Rattle.std.specs.Prelude.{Option, Some, None, option_map, find, IsTrue, Contains, if◌then◌else◌}
use Rattle.std.specs.List.{AllByRecursion}
use Rattle.lease_rule.specs.declared.lease.Kind.{Kind}
use Rattle.lease_rule.specs.declared.lease.Kind.TheVariants.{Guard, Bridge}
use Rattle.lease_rule.specs.Leases.{SeenLease, same_kind}
use Rattle.lease_rule.specs.Rule.{SeenHolding, rule}
use Rattle.grants.specs.declared.values.Grant.{Grant}
use Rattle.key_handle.specs.declared.handle.KeyHandle.{KeyHandle}
use Rattle.grants.specs.declared.slicelet_call.SliceletCall.{SliceletCall}
use Rattle.grants.specs.declared.slicelet_call.SliceletCall.TheVariants.{Start, Hear, Release, Resume}
use Rattle.slicelet.specs.Calls.{this_process, this_life, is_about, heard_by, held_grant, is_started, last_reading, reading_of}
use Rattle.slicelet.specs.Rules.{seen_by, rule_after, is_allowed, is_permitted}
use Rattle.slicelet.specs.Continuity.{IsContinuous}
use Rattle.slicelet.specs.Laws.{WasHeard, AgreeOnCall, AgreeOnHeard}

-- what was heard was also heard with one call more
heard_longer : (c : SliceletCall) (h : List SliceletCall) (grant : Grant) → WasHeard h grant → WasHeard (c ∷ h) grant
heard_longer c h grant w = record { at = w.at; later = c ∷ w.later; before = w.before; parts = ap (λ (calls : List SliceletCall). c ∷ calls) w.parts }

-- the grant of a held lease was heard
pub held_heard : (kind : Kind) (h : List SliceletCall) (grant : Grant) → heard_by (find (is_about kind) (this_life h)) ≡ Some grant → WasHeard h grant
held_heard kind [] grant e = absurd (cc)
held_heard kind (Start life at ∷ h) grant e = absurd (cc)
held_heard kind (Resume life ∷ h) grant e = absurd (cc)
held_heard kind (Hear other at ∷ h) grant e = by_test (same_kind other.lease.kind kind) e (held_heard kind h grant)
  where
    by_test : (b : Bool) → heard_by (if b then Some (Hear other at) else find (is_about kind) (this_life h)) ≡ Some grant
        → (heard_by (find (is_about kind) (this_life h)) ≡ Some grant → WasHeard h grant) → WasHeard (Hear other at ∷ h) grant
    by_test true e before = let same : other ≡ grant = cc in record { at = at; later = []; before = h; parts = ap (λ (g : Grant). Hear g at ∷ h) same }
    by_test false e before = heard_longer (Hear other at) h grant (before e)
held_heard kind (Release other at ∷ h) grant e = by_test (same_kind other kind) e (held_heard kind h grant)
  where
    by_test : (b : Bool) → heard_by (if b then Some (Release other at) else find (is_about kind) (this_life h)) ≡ Some grant
        → (heard_by (find (is_about kind) (this_life h)) ≡ Some grant → WasHeard h grant) → WasHeard (Release other at ∷ h) grant
    by_test true e before = absurd (cc)
    by_test false e before = heard_longer (Release other at) h grant (before e)

-- the call that heard a grant is among the calls
pub heard_among : (h : List SliceletCall) (grant : Grant) (w : WasHeard h grant) → Contains h (Hear grant w.at)
heard_among h grant w = subst (λ (calls : List SliceletCall). Contains calls (Hear grant w.at)) (sym w.parts)
    (Contains-append_right w.later (Hear grant w.at ∷ w.before) (Hear grant w.at) (Contains-get_or (Hear grant w.at ∷ w.before) 0 (Hear grant w.at) (let first : 0 < length (Hear grant w.at ∷ w.before) = omega arith in first)))

-- what holds of each call holds of the one that heard a grant
pub all_at_heard : (P : SliceletCall → Type 0) (h : List SliceletCall) (grant : Grant) → AllByRecursion P h → (w : WasHeard h grant) → P (Hear grant w.at)
all_at_heard P h grant a w = within w.later w.before (subst (AllByRecursion P) w.parts a)
  where
    within : (later before : List SliceletCall) → AllByRecursion P (later ++ Hear grant w.at ∷ before) → P (Hear grant w.at)
    within [] before a = a.0
    within (c ∷ later) before a = within later before a.1

module _ (covers other : Grant → Bool) where
  agree_before : (later h : List SliceletCall) → AgreeOnHeard covers other (later ++ h) → AgreeOnHeard covers other h
  agree_before [] h a = a
  agree_before (c ∷ later) h a = agree_before later h a.1

  agree_in_process : (h : List SliceletCall) → AgreeOnHeard covers other h → AgreeOnHeard covers other (this_process h)
  agree_in_process [] a = tt
  agree_in_process (Start life at ∷ h) a = (a.0, agree_in_process h a.1)
  agree_in_process (Hear grant at ∷ h) a = (a.0, agree_in_process h a.1)
  agree_in_process (Release kind at ∷ h) a = (a.0, agree_in_process h a.1)
  agree_in_process (Resume life ∷ h) a = tt

  seen_same : (kind : Kind) (h : List SliceletCall) → AgreeOnHeard covers other h → (o : Option Grant) → held_grant kind h ≡ o
      → option_map (seen_by covers) o ≡ option_map (seen_by other) o
  seen_same kind h a None e = refl
  seen_same kind h a (Some grant) e =
      let same : covers grant ≡ other grant = all_at_heard (AgreeOnCall covers other) h grant a (held_heard kind h grant e) in
      ap (λ (b : Bool). let seen : SeenLease = record { generation = grant.lease.generation; ends = grant.lease.ends; covers = b } in Some seen) same

  pub same_rule : (h : List SliceletCall) (at : ℕ) → AgreeOnHeard covers other h → rule_after covers h at ≡ rule_after other h at
  same_rule h at a =
      let guard = seen_same Guard h a (held_grant Guard h) refl in
      let bridge = seen_same Bridge h a (held_grant Bridge h) refl in
      let holding : Option SeenLease → Option SeenLease → SeenHolding = λ g b. record { up = is_started h; last = last_reading h; guard = g; bridge = b } in
      ap (λ (g : Option SeenLease). rule (holding g (option_map (seen_by covers) (held_grant Bridge h))) at) guard
      ∙ ap (λ (b : Option SeenLease). rule (holding (option_map (seen_by other) (held_grant Guard h)) b) at) bridge

  pub same_permitted : (h : List SliceletCall) (at : ℕ) → AgreeOnHeard covers other h → is_permitted covers h at ≡ is_permitted other h at
  same_permitted h at a = ap is_allowed (same_rule h at a)

  permitted_by_other : (h : List SliceletCall) (at : ℕ) → AgreeOnHeard covers other h → IsTrue (is_permitted covers h at) → IsTrue (is_permitted other h at)
  permitted_by_other h at a p = subst IsTrue (same_permitted h at a) p

  pub same_continuous : (h : List SliceletCall) (handle : KeyHandle) (at : ℕ) → AgreeOnHeard covers other h → IsContinuous covers h handle at → IsContinuous other h handle at
  same_continuous h handle at a k = record {
    life = k.life;
    kept = λ later before c e l.
        let all : AgreeOnHeard covers other (c ∷ before) = agree_before later (c ∷ before) (subst (AgreeOnHeard covers other) e (agree_in_process h a)) in
        let both = k.kept later before c e l in
        (permitted_by_other before (reading_of c) all.1 both.0, permitted_by_other (c ∷ before) (reading_of c) all both.1);
    now = permitted_by_other h at a k.now;
  }

-- agreement is the same the other way round
pub agree_other_way : (covers other : Grant → Bool) (h : List SliceletCall) → AgreeOnHeard covers other h → AgreeOnHeard other covers h
agree_other_way covers other [] a = tt
agree_other_way covers other (Start life at ∷ h) a = (tt, agree_other_way covers other h a.1)
agree_other_way covers other (Hear grant at ∷ h) a = (sym a.0, agree_other_way covers other h a.1)
agree_other_way covers other (Release kind at ∷ h) a = (tt, agree_other_way covers other h a.1)
agree_other_way covers other (Resume life ∷ h) a = (tt, agree_other_way covers other h a.1)
