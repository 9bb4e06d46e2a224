-- Stretches with one more, and with the parts of the last ones below a reading.
use Rattle.std.proofs.Common.{◌≡◌, ℕ, ◌<◌, ◌≤◌, Bool, true, false, List, [], ◌∷◌, refl, sym, ◌∙◌, ap, subst, inl, inr, arith, eqb-true}
use Rattle.std.proofs.lemmas.Bool.Decides.{nat_tests}
use Rattle.std.specs.Prelude.{Option, Some, None, ◌⊎◌, ◌==◌, min, not, ◌&&◌, nat_lt, nat_le, if◌then◌else◌}
use Rattle.lease_rule.specs.declared.lease.Kind.{Kind}
use Rattle.lease_rule.specs.declared.lease.Kind.TheVariants.{Guard, Bridge}
use Rattle.lease_rule.specs.Leases.{same_kind}
use Rattle.stretches.specs.declared.stretch.ServingLease.{ServingLease}
use Rattle.stretches.specs.declared.stretch.Stretch.{Stretch}
use Rattle.stretches.specs.Stretches.{is_in, lease_in, lease_by, first_some, below, AreApart, IsBefore, IsNewestBefore, EndBy, AreNext, BeginsAt}
use Rattle.stretches.specs.internals.Adding.{added, goes_on, newest_or, same_lease}

-- ONE MORE

both : (a b : Bool) → (a && b) ≡ true → (a ≡ true) × (b ≡ true)
both true b e = (refl, e)
both false b e = absurd (cc)

neither : (a b : Bool) → (a && b) ≡ false → a ≡ true → b ≡ false
neither true b e f = e
neither false b e f = absurd (cc)

kinds_same : (a b : Kind) → same_kind a b ≡ true → a ≡ b
kinds_same Guard Guard e = refl
kinds_same Guard Bridge e = absurd (cc)
kinds_same Bridge Guard e = absurd (cc)
kinds_same Bridge Bridge e = refl

kind_is_same : (a : Kind) → same_kind a a ≡ true
kind_is_same Guard = refl
kind_is_same Bridge = refl

named : Kind → ℕ → ℕ → ServingLease
named kind number generation = record { kind = kind; number = number; generation = generation }

leases_same : (a b : ServingLease) → same_lease a b ≡ true → a ≡ b
unfolding named
leases_same a b e =
    let first = both (same_kind a.kind b.kind) (a.number == b.number && a.generation == b.generation) e in
    let second = both (a.number == b.number) (a.generation == b.generation) first.1 in
    let kinds : a.kind ≡ b.kind = kinds_same a.kind b.kind first.0 in
    let numbers : a.number ≡ b.number = eqb-true a.number b.number second.0 in
    let generations : a.generation ≡ b.generation = eqb-true a.generation b.generation second.1 in
    let whole : named a.kind a.number a.generation ≡ named b.kind b.number b.generation = cc in
    whole

lease_is_same : (a b : ServingLease) → a ≡ b → same_lease a b ≡ true
lease_is_same a b e =
    let own : same_lease a a ≡ true = (let n : (a.number == a.number) ≡ true = grind (arith, nat_tests) in let g : (a.generation == a.generation) ≡ true = grind (arith, nat_tests) in rw (kind_is_same a.kind, n, g) refl) in
    subst (λ (l : ServingLease). same_lease a l ≡ true) e own

-- what it means that the newest one goes on with another
record GoesOn (s next : Stretch) : Type 0 where
  process : s.process ≡ next.process
  touches : s.to ≡ next.from
  lease : s.lease ≡ next.lease

goes_on_is : (s next : Stretch) → goes_on s next ≡ true → GoesOn s next
goes_on_is s next e =
    let first = both (s.process == next.process) (s.to == next.from && same_lease s.lease next.lease) e in
    let second = both (s.to == next.from) (same_lease s.lease next.lease) first.1 in
    record { process = eqb-true s.process next.process first.0; touches = eqb-true s.to next.from second.0; lease = leases_same s.lease next.lease second.1 }

-- where it does not, it is before
is_before : (s next : Stretch) → goes_on s next ≡ false → (s.process < next.process) ⊎ ((s.process ≡ next.process) × (s.to ≤ next.from)) → IsBefore s next
is_before s next e (inl earlier) = inl earlier
is_before s next e (inr same) = inr (
  same.0,
  same.1,
  λ touch is.
      let p : (s.process == next.process) ≡ true = grind (arith, nat_tests) in
      let t : (s.to == next.from) ≡ true = grind (arith, nat_tests) in
      let l : same_lease s.lease next.lease ≡ true = lease_is_same s.lease next.lease is in
      let all : goes_on s next ≡ true = rw (p, t, l) refl in
      cc,
)

longer : Stretch → Stretch → Stretch
longer newest s = record newest { to = s.to }

newest_longer : (older : List Stretch) (newest s : Stretch) → IsNewestBefore older newest → IsNewestBefore older (longer newest s)
unfolding longer
newest_longer [] newest s n = tt
newest_longer (o ∷ older) newest s n = n

pub added_apart : (s : Stretch) (xs : List Stretch) → AreApart xs → s.from < s.to → EndBy s.process s.from xs → AreApart (added s xs)
unfolding longer
added_apart s [] apart some end = (some, tt, tt)
added_apart s (newest ∷ older) apart some end = by_test (goes_on newest s) refl
  where
    by_test : (b : Bool) → goes_on newest s ≡ b → AreApart (if b then longer newest s ∷ older else s ∷ newest ∷ older)
    by_test true e = let g = goes_on_is newest s e in (omega (arith, apart.0, some, g.touches), newest_longer older newest s apart.1, apart.2)
    by_test false e = (some, is_before newest s e end, apart)

pub added_end : (s : Stretch) (xs : List Stretch) → EndBy s.process s.to (added s xs)
unfolding longer
added_end s [] = inr (refl, omega arith)
added_end s (newest ∷ older) = by_test (goes_on newest s) refl
  where
    by_test : (b : Bool) → goes_on newest s ≡ b → EndBy s.process s.to (if b then longer newest s ∷ older else s ∷ newest ∷ older)
    by_test true e = let g = goes_on_is newest s e in inr (g.process, omega arith)
    by_test false e = inr (refl, omega arith)

-- a reading in the newest one, in what lengthens it, or in neither
lengthened : (own low mid top : Bool) (old new : ServingLease) (rest : Option ServingLease) → old ≡ new → (mid ≡ true → top ≡ true) → (mid ≡ false → low ≡ true)
    → (if own && (low && top) then Some old else rest) ≡ first_some (if own && (not mid && top) then Some new else None) (if own && (low && mid) then Some old else rest)
lengthened false low mid top old new rest same f g = refl
lengthened true true true true old new rest same f g = refl
lengthened true true true false old new rest same f g = absurd (let h : false ≡ true = f refl in cc)
lengthened true true false true old new rest same f g = ap (λ (l : ServingLease). Some l) same
lengthened true true false false old new rest same f g = refl
lengthened true false true true old new rest same f g = refl
lengthened true false true false old new rest same f g = absurd (let h : false ≡ true = f refl in cc)
lengthened true false false top old new rest same f g = absurd (let h : false ≡ true = g refl in cc)

first_here : (t : Bool) (lease : ServingLease) (rest : Option ServingLease) → (if t then Some lease else rest) ≡ first_some (if t then Some lease else None) rest
first_here true lease rest = refl
first_here false lease rest = refl

pub added_lease : (process at : ℕ) (s : Stretch) (xs : List Stretch) → AreApart xs → s.from < s.to
    → lease_in process at (added s xs) ≡ first_some (lease_by process at (Some s)) (lease_in process at xs)
unfolding longer
added_lease process at s [] apart some = first_here (is_in process at s) s.lease None
added_lease process at s (newest ∷ older) apart some = by_test (goes_on newest s) refl
  where
    by_test : (b : Bool) → goes_on newest s ≡ b
        → lease_in process at (if b then longer newest s ∷ older else s ∷ newest ∷ older) ≡ first_some (if is_in process at s then Some s.lease else None) (lease_in process at (newest ∷ older))
    by_test true e =
        let g = goes_on_is newest s e in
        let own : (s.process == process) ≡ (newest.process == process) = ap (λ (n : ℕ). n == process) (sym g.process) in
        let from : nat_le s.from at ≡ not (nat_lt at newest.to) = ap (λ (n : ℕ). nat_le n at) (sym g.touches) ∙ grind (arith, nat_tests) in
        rw (own, from) (lengthened (newest.process == process) (nat_le newest.from at) (nat_lt at newest.to) (nat_lt at s.to) newest.lease s.lease (lease_in process at older) g.lease
        (λ mid. grind (arith, nat_tests, mid, g.touches, some)) (λ mid. grind (arith, nat_tests, mid, g.touches, apart.0)))
    by_test false e = first_here (is_in process at s) s.lease (lease_in process at (newest ∷ older))

-- THE PART BELOW A READING

cut_test : (a b : ℕ) → (at : ℕ) → nat_lt at (min a b) ≡ (nat_lt at a && nat_lt at b)
cut_test a b at = grind (arith, nat_tests)

within : (own low high under : Bool) (lease : ServingLease) → (if own && (low && (high && under)) then Some lease else None) ≡ (if under then (if own && (low && high) then Some lease else None) else None)
within false low high true lease = refl
within false low high false lease = refl
within true false high true lease = refl
within true false high false lease = refl
within true true true true lease = refl
within true true true false lease = refl
within true true false true lease = refl
within true true false false lease = refl

nowhere : (own high under : Bool) (lease : ServingLease) → None ≡ (if under then (if own && (false && high) then Some lease else None) else None)
nowhere true high true lease = refl
nowhere true high false lease = refl
nowhere false high true lease = refl
nowhere false high false lease = refl

nothing_under : (lease : Option ServingLease) (under : Bool) → under ≡ false → None ≡ (if under then lease else None)
nothing_under lease under e = rw e refl

pub lease_below : (now process at : ℕ) (o : Option Stretch) → lease_by process at (below now o) ≡ (if nat_lt at now then lease_by process at o else None)
lease_below now process at None = by_test (nat_lt at now)
  where
    by_test : (t : Bool) → lease_by process at None ≡ (if t then lease_by process at None else None)
    by_test true = refl
    by_test false = refl
lease_below now process at (Some s) = by_test (nat_lt s.from now) refl
  where
    by_test : (b : Bool) → nat_lt s.from now ≡ b
        → lease_by process at (if b then Some (record s { to = min s.to now }) else None) ≡ (if nat_lt at now then (if is_in process at s then Some s.lease else None) else None)
    by_test true e = rw (cut_test s.to now at) (within (s.process == process) (nat_le s.from at) (nat_lt at s.to) (nat_lt at now) s.lease)
    by_test false e = by_under (nat_lt at now) refl
      where
        by_under : (u : Bool) → nat_lt at now ≡ u → None ≡ (if u then (if is_in process at s then Some s.lease else None) else None)
        by_under true f = let late : nat_le s.from at ≡ false = grind (arith, nat_tests) in rw late (nowhere (s.process == process) (nat_lt at s.to) true s.lease)
        by_under false f = refl

pub weaker : (process a b : ℕ) (xs : List Stretch) → EndBy process a xs → a ≤ b → EndBy process b xs
weaker process a b [] end l = tt
weaker process a b (s ∷ xs) (inl earlier) l = inl earlier
weaker process a b (s ∷ xs) (inr same) l = inr (same.0, omega (arith, same.1, l))

module _ (now : ℕ) (s : Stretch) (some : s.from < s.to) (xs : List Stretch) (apart : AreApart xs) where
  cut : Stretch
  cut = record s { to = min s.to now }

  part_apart : (s.from < now → EndBy s.process s.from xs) → AreApart (newest_or (below now (Some s)) xs)
  unfolding cut
  part_apart end = by_test (nat_lt s.from now) refl
    where
      by_test : (b : Bool) → nat_lt s.from now ≡ b → AreApart (newest_or (if b then Some cut else None) xs)
      by_test true e = let l : s.from < now = grind (arith, nat_tests) in added_apart cut xs apart (grind (arith, some, l)) (end l)
      by_test false e = apart

  part_lease : (process at : ℕ) → lease_in process at (newest_or (below now (Some s)) xs)
      ≡ first_some (if nat_lt at now then lease_by process at (Some s) else None) (lease_in process at xs)
  unfolding cut
  part_lease process at = by_test (nat_lt s.from now) refl ∙ ap (λ (o : Option ServingLease). first_some o (lease_in process at xs)) (lease_below now process at (Some s))
    where
      by_test : (b : Bool) → nat_lt s.from now ≡ b → lease_in process at (newest_or (if b then Some cut else None) xs)
          ≡ first_some (lease_by process at (if b then Some cut else None)) (lease_in process at xs)
      by_test true e = let l : s.from < now = grind (arith, nat_tests) in added_lease process at cut xs apart (grind (arith, some, l))
      by_test false e = refl

  -- up to its end, where that is below the reading
  part_end : s.to < now → EndBy s.process s.to (newest_or (below now (Some s)) xs)
  unfolding cut
  part_end l = let e : nat_lt s.from now ≡ true = grind (arith, nat_tests, some, l) in rw e (weaker s.process cut.to s.to (added cut xs) (added_end cut xs) (grind arith))

  -- and up to the reading
  part_now : EndBy s.process now xs → EndBy s.process now (newest_or (below now (Some s)) xs)
  unfolding cut
  part_now end = by_test (nat_lt s.from now) refl
    where
      by_test : (b : Bool) → nat_lt s.from now ≡ b → EndBy s.process now (newest_or (if b then Some cut else None) xs)
      by_test true e = weaker s.process cut.to now (added cut xs) (added_end cut xs) (grind arith)
      by_test false e = end

-- BOTH PARTS BELOW A READING

pub record AreSettled (process now : ℕ) (first second : Option Stretch) (xs ys : List Stretch) : Type 0 where
  pub apart : AreApart ys
  pub end : EndBy process now ys
  pub lease : (other at : ℕ) → lease_in other at ys
      ≡ first_some (if nat_lt at now then first_some (lease_by other at second) (lease_by other at first) else None) (lease_in other at xs)

some_or_none : (lease : Option ServingLease) (t : Bool) → lease ≡ first_some (if t then None else None) lease
some_or_none lease true = refl
some_or_none lease false = refl

two_firsts : (a b c : Option ServingLease) (t : Bool) → first_some (if t then a else None) (first_some (if t then b else None) c) ≡ first_some (if t then first_some a b else None) c
two_firsts (Some l) b c true = refl
two_firsts None b c true = refl
two_firsts a b c false = refl

module _ (process last now : ℕ) (l : last ≤ now) (xs : List Stretch) (apart : AreApart xs) (end : EndBy process last xs) where
  own_end : (from : ℕ) (s : Stretch) → BeginsAt process from s → (ys : List Stretch) → EndBy process from ys → EndBy s.process s.from ys
  own_end from s b ys e = subst (λ (p : ℕ). EndBy p s.from ys) (sym b.0) (subst (λ (n : ℕ). EndBy process n ys) (sym b.1) e)

  of_own : (from : ℕ) (s : Stretch) → BeginsAt process from s → (n : ℕ) (ys : List Stretch) → EndBy process n ys → EndBy s.process n ys
  of_own from s b n ys e = subst (λ (p : ℕ). EndBy p n ys) (sym b.0) e

  to_own : (from : ℕ) (s : Stretch) → BeginsAt process from s → (n : ℕ) (ys : List Stretch) → EndBy s.process n ys → EndBy process n ys
  to_own from s b n ys e = subst (λ (p : ℕ). EndBy p n ys) b.0 e

  pub settled : (first second : Option Stretch) → AreNext process last first second
      → AreSettled process now first second xs (newest_or (below now second) (newest_or (below now first) xs))
  settled None None n = record { apart = apart; end = weaker process last now xs end l; lease = λ other at. some_or_none (lease_in other at xs) (nat_lt at now) }
  settled None (Some g) n = absurd n
  settled (Some f) None n = record {
    apart = part_apart now f n.2 xs apart (λ _. own_end last f n xs end);
    end = to_own last f n now _ (part_now now f n.2 xs apart (of_own last f n now xs (weaker process last now xs end l)));
    lease = λ other at. part_lease now f n.2 xs apart other at;
  }
  settled (Some f) (Some g) n =
      let some_f : f.from < f.to = n.0.2 in
      let some_g : g.from < g.to = n.1.2 in
      let ys = newest_or (below now (Some f)) xs in
      let apart_f : AreApart ys = part_apart now f some_f xs apart (λ _. own_end last f n.0 xs end) in
      let end_f : EndBy process now ys = to_own last f n.0 now ys (part_now now f some_f xs apart (of_own last f n.0 now xs (weaker process last now xs end l))) in
      let touch : g.from < now → EndBy g.process g.from ys
      = λ early. own_end f.to g n.1 ys (to_own last f n.0 f.to ys (part_end now f some_f xs apart (omega (arith, early, n.1.1)))) in
      record {
        apart = part_apart now g some_g ys apart_f touch;
        end = to_own f.to g n.1 now _ (part_now now g some_g ys apart_f (of_own f.to g n.1 now ys end_f));
        lease = λ other at. part_lease now g some_g ys apart_f other at
            ∙ ap (λ (o : Option ServingLease). first_some (if nat_lt at now then lease_by other at (Some g) else None) o) (part_lease now f some_f xs apart other at)
            ∙ two_firsts (lease_by other at (Some g)) (lease_by other at (Some f)) (lease_in other at xs) (nat_lt at now);
      }
