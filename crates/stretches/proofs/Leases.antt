-- What a slicelet lets its task serve from a reading on, if no other call comes.
use Rattle.std.proofs.Common.{◌≡◌, ℕ, ◌<◌, ◌≤◌, Bool, true, false, List, [], ◌∷◌, refl, ◌∙◌, ap, arith}
use Rattle.std.proofs.lemmas.Bool.Decides.{nat_tests}
use Rattle.std.specs.Prelude.{Option, Some, None, ◌≢◌, ◌==◌, ◌&&◌, ◌||◌, nat_lt, nat_le, unwrap_or, option_map, if◌then◌else◌}
use Rattle.machines.specs.Refusals.{when, first_of}
use Rattle.lease_rule.specs.declared.lease.Kind.{Kind}
use Rattle.lease_rule.specs.declared.lease.Kind.TheVariants.{Guard, Bridge}
use Rattle.lease_rule.specs.declared.answer.Ground.TheVariants.{Ended, NotOwned, NoLease}
use Rattle.lease_rule.specs.declared.answer.Verdict.{Verdict}
use Rattle.lease_rule.specs.declared.answer.Verdict.TheVariants.{Allow, Deny}
use Rattle.lease_rule.specs.Leases.{SeenLease}
use Rattle.lease_rule.specs.Rule.{allowed_by, is_covered, is_serving, live_generation, greatest}
use Rattle.grants.specs.declared.values.Grant.{Grant}
use Rattle.slicelet.specs.Rules.{seen_by, covers_key}
use Rattle.slicelet.specs.States.{SliceletState, rule_in_state}
use Rattle.stretches.specs.declared.stretch.ServingLease.{ServingLease}
use Rattle.stretches.specs.declared.stretch.Stretch.{Stretch}
use Rattle.stretches.specs.Stretches.{lease_of, of_allowing, stretch_of, stretch_in, then_in, lease_by, first_some, AreNext}

-- THE VERDICT BY TWO TESTS

-- whether a held lease serves a key at a reading
serves : ℕ → ℕ → Option Grant → Bool
serves key at held = is_serving at (option_map (seen_by (covers_key key)) held)

-- the cases of the rule after the two leases
denials : ℕ → Option SeenLease → Option SeenLease → List (Option Verdict)
denials at guard bridge = when (is_covered guard || is_covered bridge) (Deny Ended)
    ∷ option_map (λ generation. Deny (NotOwned generation)) (greatest (live_generation at guard) (live_generation at bridge)) ∷ []

module _ {A : Type 0} (f : Kind → Grant → A) where
  -- neither lease allows
  denied : (covered : Bool) (newest : Option ℕ) (guard bridge : Option Grant)
      → of_allowing f (unwrap_or (first_of (when covered (Deny Ended) ∷ option_map (λ generation. Deny (NotOwned generation)) newest ∷ [])) (Deny NoLease)) guard bridge ≡ None
  denied true newest guard bridge = refl
  denied false None guard bridge = refl
  denied false (Some generation) guard bridge = refl

  by_bridge : (covers : Grant → Bool) (at : ℕ) (covered : Bool) (newest : Option ℕ) (guard bridge : Option Grant)
      → of_allowing f (unwrap_or (first_of (allowed_by Bridge at (option_map (seen_by covers) bridge) ∷ when covered (Deny Ended)
      ∷ option_map (λ generation. Deny (NotOwned generation)) newest ∷ [])) (Deny NoLease)) guard bridge
      ≡ (if is_serving at (option_map (seen_by covers) bridge) then option_map (f Bridge) bridge else None)
  by_bridge covers at covered newest guard None = denied covered newest guard None
  by_bridge covers at covered newest guard (Some b) = by_test (nat_lt at b.lease.ends && covers b)
    where
      by_test : (t : Bool) → of_allowing f (unwrap_or (first_of (option_map (λ generation. Allow Bridge generation) (when t b.lease.generation) ∷ when covered (Deny Ended)
          ∷ option_map (λ generation. Deny (NotOwned generation)) newest ∷ [])) (Deny NoLease)) guard (Some b) ≡ (if t then Some (f Bridge b) else None)
      by_test true = refl
      by_test false = denied covered newest guard (Some b)

  by_guard : (covers : Grant → Bool) (at : ℕ) (covered : Bool) (newest : Option ℕ) (guard bridge : Option Grant)
      → of_allowing f (unwrap_or (first_of (allowed_by Guard at (option_map (seen_by covers) guard) ∷ allowed_by Bridge at (option_map (seen_by covers) bridge)
      ∷ when covered (Deny Ended) ∷ option_map (λ generation. Deny (NotOwned generation)) newest ∷ [])) (Deny NoLease)) guard bridge
      ≡ (if is_serving at (option_map (seen_by covers) guard) then option_map (f Guard) guard
      else (if is_serving at (option_map (seen_by covers) bridge) then option_map (f Bridge) bridge else None))
  by_guard covers at covered newest None bridge = by_bridge covers at covered newest None bridge
  by_guard covers at covered newest (Some g) bridge = by_test (nat_lt at g.lease.ends && covers g)
    where
      by_test : (t : Bool) → of_allowing f (unwrap_or (first_of (option_map (λ generation. Allow Guard generation) (when t g.lease.generation)
          ∷ allowed_by Bridge at (option_map (seen_by covers) bridge) ∷ when covered (Deny Ended) ∷ option_map (λ generation. Deny (NotOwned generation)) newest ∷ [])) (Deny NoLease)) (Some g) bridge
          ≡ (if t then Some (f Guard g) else (if is_serving at (option_map (seen_by covers) bridge) then option_map (f Bridge) bridge else None))
      by_test true = refl
      by_test false = by_bridge covers at covered newest (Some g) bridge

  -- a task that was started, at its last reading or above
  by_leases : (key : ℕ) (s : SliceletState) (at : ℕ) → s.up ≡ true → s.last ≤ at
      → of_allowing f (rule_in_state (covers_key key) s at) s.guard s.bridge
      ≡ (if serves key at s.guard then option_map (f Guard) s.guard else (if serves key at s.bridge then option_map (f Bridge) s.bridge else None))
  unfolding serves
  by_leases key s at up l =
      let on_time : nat_lt at s.last ≡ false = grind (arith, nat_tests) in
      rw (up, on_time) (by_guard (covers_key key) at
      (is_covered (option_map (seen_by (covers_key key)) s.guard) || is_covered (option_map (seen_by (covers_key key)) s.bridge))
      (greatest (live_generation at (option_map (seen_by (covers_key key)) s.guard)) (live_generation at (option_map (seen_by (covers_key key)) s.bridge)))
      s.guard s.bridge)

  -- one that was not
  by_none : (key : ℕ) (s : SliceletState) (at : ℕ) → s.up ≡ false → of_allowing f (rule_in_state (covers_key key) s at) s.guard s.bridge ≡ None
  by_none key s at down = rw down refl

-- UP TO WHERE A LEASE REACHES

-- 0 where there is none
reach : ℕ → Option Grant → ℕ
reach key None = 0
reach key (Some g) = if covers_key key g then g.lease.ends else 0

-- its name, also where there is none
name_of : Kind → Option Grant → ServingLease
name_of kind None = record { kind = kind; number = 0; generation = 0 }
name_of kind (Some g) = lease_of kind g

names_differ : (guard bridge : Option Grant) → name_of Guard guard ≢ name_of Bridge bridge
unfolding name_of
names_differ None None e = absurd (let kinds : Guard ≡ Bridge = ap (λ (l : ServingLease). l.kind) e in cc)
names_differ None (Some b) e = absurd (let kinds : Guard ≡ Bridge = ap (λ (l : ServingLease). l.kind) e in cc)
names_differ (Some g) None e = absurd (let kinds : Guard ≡ Bridge = ap (λ (l : ServingLease). l.kind) e in cc)
names_differ (Some g) (Some b) e = absurd (let kinds : Guard ≡ Bridge = ap (λ (l : ServingLease). l.kind) e in cc)

serves_reach : (key at : ℕ) (held : Option Grant) → serves key at held ≡ nat_lt at (reach key held)
unfolding serves reach
serves_reach key at None = grind (arith, nat_tests)
serves_reach key at (Some g) = by_cover (covers_key key g)
  where
    by_test : (b : Bool) → (b && true) ≡ b
    by_test true = refl
    by_test false = refl

    by_cover : (covers : Bool) → (nat_lt at g.lease.ends && covers) ≡ nat_lt at (if covers then g.lease.ends else 0)
    by_cover true = by_test (nat_lt at g.lease.ends)
    by_cover false = grind (arith, nat_tests)

lease_reach : (kind : Kind) (key at : ℕ) (held : Option Grant) (other : Option ServingLease)
    → (if nat_lt at (reach key held) then option_map (lease_of kind) held else other) ≡ (if nat_lt at (reach key held) then Some (name_of kind held) else other)
unfolding reach name_of
lease_reach kind key at None other = let none : nat_lt at 0 ≡ false = grind (arith, nat_tests) in rw none refl
lease_reach kind key at (Some g) other = refl

named : ℕ → ℕ → ℕ → Kind → Option Grant → Stretch
named key process from kind held = record { process = process; from = from; to = reach key held; lease = name_of kind held }

stretch_reach : (kind : Kind) (key process from : ℕ) (held : Option Grant) (other : Option Stretch)
    → (if nat_lt from (reach key held) then option_map (stretch_of process from kind) held else other)
    ≡ (if nat_lt from (reach key held) then Some (named key process from kind held) else other)
unfolding reach name_of named
stretch_reach kind key process from None other = let none : nat_lt from 0 ≡ false = grind (arith, nat_tests) in rw none refl
stretch_reach kind key process from (Some g) other = by_cover (covers_key key g)
  where
    by_cover : (covers : Bool) → (if nat_lt from (if covers then g.lease.ends else 0) then Some (stretch_of process from kind g) else other)
        ≡ (if nat_lt from (if covers then g.lease.ends else 0) then Some (record { process = process; from = from; to = if covers then g.lease.ends else 0; lease = lease_of kind g }) else other)
    by_cover true = refl
    by_cover false = let none : nat_lt from 0 ≡ false = grind (arith, nat_tests) in rw none refl

-- TWO LEASES, OF WHICH THE FIRST COUNTS

module _ (process first_end second_end : ℕ) (first_lease second_lease : ServingLease) (differ : first_lease ≢ second_lease) where
  lease_at : ℕ → Option ServingLease
  lease_at at = if nat_lt at first_end then Some first_lease else (if nat_lt at second_end then Some second_lease else None)

  one : ℕ → ℕ → ServingLease → Stretch
  one from to lease = record { process = process; from = from; to = to; lease = lease }

  stretch_at : ℕ → Option Stretch
  stretch_at from = if nat_lt from first_end then Some (one from first_end first_lease) else (if nat_lt from second_end then Some (one from second_end second_lease) else None)

  after : Option Stretch → Option Stretch
  after None = None
  after (Some s) = stretch_at s.to

  lease_one : (from to at : ℕ) (lease : ServingLease) → from ≤ at → lease_by process at (Some (one from to lease)) ≡ (if nat_lt at to then Some lease else None)
  unfolding one
  lease_one from to at lease l =
      let same : (process == process) ≡ true = grind (arith, nat_tests) in
      let late : nat_le from at ≡ true = grind (arith, nat_tests) in
      rw (same, late) refl

  lease_early : (from to at : ℕ) (lease : ServingLease) → at < from → lease_by process at (Some (one from to lease)) ≡ None
  unfolding one
  lease_early from to at lease l =
      let same : (process == process) ≡ true = grind (arith, nat_tests) in
      let late : nat_le from at ≡ false = grind (arith, nat_tests) in
      rw (same, late) refl

  from_then_on : (from at : ℕ) → from ≤ at → first_some (lease_by process at (after (stretch_at from))) (lease_by process at (stretch_at from)) ≡ lease_at at
  unfolding stretch_at after lease_at one
  from_then_on from at l = by_first (nat_lt from first_end) refl
    where
      by_second : (b : Bool) → nat_lt from second_end ≡ b → nat_lt from first_end ≡ false
          → first_some (lease_by process at (after (if b then Some (one from second_end second_lease) else None))) (lease_by process at (if b then Some (one from second_end second_lease) else None)) ≡ lease_at at
      by_second true e f =
          let no_first : nat_lt second_end first_end ≡ false = grind (arith, nat_tests) in
          let no_second : nat_lt second_end second_end ≡ false = grind (arith, nat_tests) in
          let not_now : nat_lt at first_end ≡ false = grind (arith, nat_tests) in
          rw (no_first, no_second, not_now) (lease_one from second_end at second_lease l)
      by_second false e f =
          let not_now : nat_lt at first_end ≡ false = grind (arith, nat_tests) in
          let nor : nat_lt at second_end ≡ false = grind (arith, nat_tests) in
          rw (not_now, nor) refl

      by_tail : (b : Bool) → nat_lt first_end second_end ≡ b
          → first_some (lease_by process at (if b then Some (one first_end second_end second_lease) else None)) (lease_by process at (Some (one from first_end first_lease))) ≡ lease_at at
      by_tail true e = by_now (nat_lt at first_end) refl
        where
          by_now : (now : Bool) → nat_lt at first_end ≡ now
              → first_some (lease_by process at (Some (one first_end second_end second_lease))) (lease_by process at (Some (one from first_end first_lease))) ≡ (if now then Some first_lease else (if nat_lt at second_end then Some second_lease else None))
          by_now true e = rw (lease_early first_end second_end at second_lease (grind (arith, nat_tests)), lease_one from first_end at first_lease l, e) refl
          by_now false e = rw (lease_one first_end second_end at second_lease (grind (arith, nat_tests)), lease_one from first_end at first_lease l, e) (by_it (nat_lt at second_end))
            where
              by_it : (t : Bool) → first_some (if t then Some second_lease else None) None ≡ (if t then Some second_lease else None)
              by_it true = refl
              by_it false = refl
      by_tail false e = rw (lease_one from first_end at first_lease l) (by_now (nat_lt at first_end) refl)
        where
          by_now : (now : Bool) → nat_lt at first_end ≡ now → (if now then Some first_lease else None) ≡ (if now then Some first_lease else (if nat_lt at second_end then Some second_lease else None))
          by_now true f = refl
          by_now false f = let nor : nat_lt at second_end ≡ false = grind (arith, nat_tests) in rw nor refl

      by_first : (b : Bool) → nat_lt from first_end ≡ b
          → first_some (lease_by process at (after (if b then Some (one from first_end first_lease) else (if nat_lt from second_end then Some (one from second_end second_lease) else None))))
          (lease_by process at (if b then Some (one from first_end first_lease) else (if nat_lt from second_end then Some (one from second_end second_lease) else None))) ≡ lease_at at
      by_first true e = let none : nat_lt first_end first_end ≡ false = grind (arith, nat_tests) in rw none (by_tail (nat_lt first_end second_end) refl)
      by_first false e = by_second (nat_lt from second_end) refl e

  they_are_next : (from : ℕ) → AreNext process from (stretch_at from) (after (stretch_at from))
  unfolding stretch_at after one
  they_are_next from = by_first (nat_lt from first_end) refl
    where
      by_tail : (b : Bool) → nat_lt first_end second_end ≡ b → nat_lt from first_end ≡ true
          → AreNext process from (Some (one from first_end first_lease)) (if b then Some (one first_end second_end second_lease) else None)
      by_tail true e f = ((refl, refl, grind (arith, nat_tests)), (refl, refl, grind (arith, nat_tests)), differ)
      by_tail false e f = (refl, refl, grind (arith, nat_tests))

      by_second : (b : Bool) → nat_lt from second_end ≡ b → nat_lt from first_end ≡ false
          → AreNext process from (if b then Some (one from second_end second_lease) else None) (after (if b then Some (one from second_end second_lease) else None))
      by_second true e f =
          let no_first : nat_lt second_end first_end ≡ false = grind (arith, nat_tests) in
          let no_second : nat_lt second_end second_end ≡ false = grind (arith, nat_tests) in
          rw (no_first, no_second) (refl, refl, grind (arith, nat_tests))
      by_second false e f = tt

      by_first : (b : Bool) → nat_lt from first_end ≡ b
          → AreNext process from (if b then Some (one from first_end first_lease) else (if nat_lt from second_end then Some (one from second_end second_lease) else None))
          (after (if b then Some (one from first_end first_lease) else (if nat_lt from second_end then Some (one from second_end second_lease) else None)))
      by_first true e = let none : nat_lt first_end first_end ≡ false = grind (arith, nat_tests) in rw none (by_tail (nat_lt first_end second_end) refl e)
      by_first false e = by_second (nat_lt from second_end) refl e

-- A SLICELET

module _ (s : SliceletState) (key process : ℕ) where
  guard_end : ℕ
  guard_end = reach key s.guard

  bridge_end : ℕ
  bridge_end = reach key s.bridge

  guard_name : ServingLease
  guard_name = name_of Guard s.guard

  bridge_name : ServingLease
  bridge_name = name_of Bridge s.bridge

  differ : guard_name ≢ bridge_name
  unfolding guard_name bridge_name
  differ = names_differ s.guard s.bridge

  stretch_is : (from : ℕ) → s.up ≡ true → s.last ≤ from → stretch_in s key process from ≡ stretch_at process guard_end bridge_end guard_name bridge_name differ from
  unfolding guard_end bridge_end guard_name bridge_name stretch_at one named
  stretch_is from up l =
      by_leases (stretch_of process from) key s from up l
      ∙ rw (serves_reach key from s.guard, serves_reach key from s.bridge)
      (stretch_reach Guard key process from s.guard _ ∙ ap (λ (o : Option Stretch). if nat_lt from (reach key s.guard) then Some (named key process from Guard s.guard) else o)
      (stretch_reach Bridge key process from s.bridge None))

  lease_is : (at : ℕ) → s.up ≡ true → s.last ≤ at
      → of_allowing lease_of (rule_in_state (covers_key key) s at) s.guard s.bridge ≡ lease_at process guard_end bridge_end guard_name bridge_name differ at
  unfolding guard_end bridge_end guard_name bridge_name lease_at
  lease_is at up l =
      by_leases lease_of key s at up l
      ∙ rw (serves_reach key at s.guard, serves_reach key at s.bridge)
      (lease_reach Guard key at s.guard _ ∙ ap (λ (o : Option ServingLease). if nat_lt at (reach key s.guard) then Some (name_of Guard s.guard) else o)
      (lease_reach Bridge key at s.bridge None))

  last_before : (from : ℕ) (first second : Option Stretch) → AreNext process from first second → (f : Stretch) → first ≡ Some f → from < f.to
  last_before from None second n f e = absurd (cc)
  last_before from (Some g) None n f e = let same : g.to ≡ f.to = ap (λ (o : Option Stretch). to_of o) e in omega (arith, same, n.1, n.2)
    where
      to_of : Option Stretch → ℕ
      to_of None = 0
      to_of (Some s) = s.to
  last_before from (Some g) (Some h) n f e = let same : g.to ≡ f.to = ap (λ (o : Option Stretch). to_of o) e in omega (arith, same, n.0.1, n.0.2)
    where
      to_of : Option Stretch → ℕ
      to_of None = 0
      to_of (Some s) = s.to

  one_is : ℕ → Option Stretch
  one_is from = stretch_at process guard_end bridge_end guard_name bridge_name differ from

  next_is : Option Stretch → Option Stretch
  next_is first = after process guard_end bridge_end guard_name bridge_name differ first

  then_is : (from : ℕ) → s.up ≡ true → s.last ≤ from → then_in s key process (one_is from) ≡ next_is (one_is from)
  unfolding one_is next_is after
  then_is from up l = by_one (one_is from) refl
    where
      by_one : (o : Option Stretch) → one_is from ≡ o → then_in s key process o ≡ after process guard_end bridge_end guard_name bridge_name differ o
      by_one None e = refl
      by_one (Some f) e =
          stretch_is f.to up (omega (arith, l, last_before from (one_is from) (next_is (one_is from)) (they_are_next process guard_end bridge_end guard_name bridge_name differ from) f e))

  pub serving_from : (from at : ℕ) → s.last ≤ from → from ≤ at
      → first_some (lease_by process at (then_in s key process (stretch_in s key process from))) (lease_by process at (stretch_in s key process from))
      ≡ of_allowing lease_of (rule_in_state (covers_key key) s at) s.guard s.bridge
  unfolding one_is next_is
  serving_from from at l m = by_up s.up refl
    where
      by_up : (up : Bool) → s.up ≡ up → first_some (lease_by process at (then_in s key process (stretch_in s key process from))) (lease_by process at (stretch_in s key process from))
          ≡ of_allowing lease_of (rule_in_state (covers_key key) s at) s.guard s.bridge
      by_up true e = rw (stretch_is from e l, then_is from e l, lease_is at e (omega (arith, l, m)))
          (from_then_on process guard_end bridge_end guard_name bridge_name differ from at m)
      by_up false e = rw (by_none (stretch_of process from) key s from e, by_none lease_of key s at e) refl

  pub next_from : (from : ℕ) → s.last ≤ from → AreNext process from (stretch_in s key process from) (then_in s key process (stretch_in s key process from))
  unfolding one_is next_is
  next_from from l = by_up s.up refl
    where
      by_up : (up : Bool) → s.up ≡ up → AreNext process from (stretch_in s key process from) (then_in s key process (stretch_in s key process from))
      by_up true e = rw (stretch_is from e l, then_is from e l) (they_are_next process guard_end bridge_end guard_name bridge_name differ from)
      by_up false e = rw (by_none (stretch_of process from) key s from e) tt
