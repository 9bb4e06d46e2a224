-- From the writes that the store took to the events.
use Rattle.std.proofs.Common.{◌≡◌, ℕ, ◌<◌, ◌≤◌, Bool, true, false, nat_lt, List, take, length, refl, sym, ◌∙◌, ap, subst, arith}
use Rattle.std.specs.Prelude.{slice_get, Option, Some, None, MatchOption}
use Rattle.std.specs.Ordering.{is_lt}
use Rattle.std.specs.List.{Contains}
use Rattle.std.specs.List.Sorted.{IsSorted, IsPermutation}
use Rattle.std.proofs.Math.ListN.{get_or}
use Rattle.std.proofs.lemmas.Bool.Decides.{nat_tests}
use Rattle.std.proofs.lemmas.List.{get_or-take, length-take-le}
use Rattle.std.proofs.lemmas.List.Sorted.{Contains-permutation, IsPermutation-sym}
use Rattle.std.proofs.lemmas.Option.{slice_get-get_or, slice_get_within, get_or_from_slice_get}
use Rattle.fence.specs.Tokens.{IsBelow}
use Rattle.store_writes.specs.declared.write.Write.{Write}
use Rattle.store_writes.specs.declared.write.WriteEvent.{WriteEvent}
use Rattle.store_writes.specs.declared.write.WriteEvent.TheVariants.{Offered}
use Rattle.store_writes.specs.declared.taken.Taken.{Taken}
use Rattle.store_writes.specs.declared.late.Late.{Late}
use Rattle.store_writes.specs.Writes.{IsOvertaken, TookBefore}
use Rattle.store_writes.specs.internals.Firsts.{AreTaken, IsFirstOvertaken, IsFound, IsPassed, NoneOvertakenBefore, taken_cmp, write_of}
use Rattle.store_writes.proofs.Ordering.{later_not_less, less_revision, revision_below}

-- the same writes in another order
pub taken_moved : (events : List WriteEvent) (taken moved : List Taken) → AreTaken events taken → IsPermutation taken moved → AreTaken events moved
taken_moved events taken moved are p =
    record {
      each = λ write in_it. are.each write (Contains-permutation moved taken write (IsPermutation-sym taken moved p) in_it);
      all = λ write is. Contains-permutation taken moved write p (are.all write is);
    }

module _ (events : List WriteEvent) (taken : List Taken) (are : AreTaken events taken) (up : IsSorted taken_cmp taken) where
  -- where it stands that passed one
  passing_at : (place : ℕ) (by : Taken) → place < length taken → Contains (take place taken) by → (k : ℕ) × (k < place) × (k < length taken) × (get_or taken k by ≡ by)
  passing_at place by inside c =
      let count = length-take-le place taken (omega (arith, inside)) in
      let low : c.0 < place = (let l = c.1 in omega (arith, l, count)) in
      (c.0, low, (omega (arith, low, inside)), sym (get_or-take place taken c.0 by low) ∙ c.2)

  -- what was passed was overtaken
  overtaken_from : (place : ℕ) (write by : Taken) → IsPassed taken place write by → IsOvertaken (write_of write) (write_of by)
  overtaken_from place write by p =
      let inside = slice_get_within taken place write p.here in
      let at = passing_at place by inside p.before in
      let here : get_or taken place by ≡ write = get_or_from_slice_get taken place write by p.here in
      let order : is_lt (taken_cmp (get_or taken place by) (get_or taken at.0 by)) ≡ false =
      later_not_less taken up at.0 place by (let l = at.1 in omega (arith, l)) inside in
      let named : is_lt (taken_cmp write by) ≡ false = subst (λ (t : Taken). is_lt (taken_cmp t by) ≡ false) here (subst (λ (t : Taken). is_lt (taken_cmp (get_or taken place by) t) ≡ false) at.3 order) in
      record { key = p.above.key; order = revision_below by write named p.above.token; token = p.above.token }

  -- a write that was overtaken is among these, as is the one that overtook it
  taken_of : (place : ℕ) (write : Write) (revision : ℕ) → write.revision ≡ Some revision → slice_get events place ≡ Some (Offered write)
      → Contains taken record { revision = revision; token = write.token; key = write.key; index = place }
  taken_of place write revision has here =
      are.all record { revision = revision; token = write.token; key = write.key; index = place }
      (here ∙ ap (λ (r : Option ℕ). Some (Offered record { key = write.key; token = write.token; revision = r })) has)

  -- of two taken writes, one was passed by the other if it was overtaken by it
  passed_from : (write by : Taken) → Contains taken write → Contains taken by → by.key ≡ write.key → by.revision < write.revision → IsBelow write.token by.token
      → (place : ℕ) × (place < length taken) × IsPassed taken place write by
  passed_from write by w b key lower token = (w.0, w.1, record { here = here; before = before; above = record { key = key; token = token } })
    where
      here : slice_get taken w.0 ≡ Some write
      here = slice_get-get_or taken w.0 write w.1 ∙ ap (λ (t : Taken). Some t) w.2

      first : b.0 < w.0
      first = by_order (nat_lt b.0 w.0) refl
        where
          by_order : (l : Bool) → l ≡ nat_lt b.0 w.0 → b.0 < w.0
          by_order true e = grind (arith, nat_tests)
          by_order false e =
              let inside = b.1 in
              let order : is_lt (taken_cmp (get_or taken b.0 by) (get_or taken w.0 by)) ≡ false = later_not_less taken up w.0 b.0 by (grind (arith, nat_tests)) inside in
              let is : get_or taken w.0 by ≡ write = get_or_from_slice_get taken w.0 write by here in
              let named : is_lt (taken_cmp by write) ≡ false = subst (λ (t : Taken). is_lt (taken_cmp by t) ≡ false) is (subst (λ (t : Taken). is_lt (taken_cmp t (get_or taken w.0 by)) ≡ false) b.2 order) in
              absurd (let h : true ≡ false = sym (less_revision by write lower) ∙ named in cc)

      before : Contains (take w.0 taken) by
      before = (b.0, (let l = first in let m = length-take-le w.0 taken (let i = w.1 in omega (arith, i)) in omega (arith, l, m)), get_or-take w.0 taken b.0 by first ∙ b.2)

  -- each write that was overtaken was passed at some place
  passed_somewhere : (place at : ℕ) (write by : Write) → slice_get events place ≡ Some (Offered write) → slice_get events at ≡ Some (Offered by) → IsOvertaken write by
      → (other : ℕ) × (one : Taken) × (another : Taken) × (other < length taken) × IsPassed taken other one another × (one.index ≡ place)
  passed_somewhere place at write by here there o = by_revisions by.revision write.revision refl refl o.order
    where
      by_revisions : (earlier later : Option ℕ) → by.revision ≡ earlier → write.revision ≡ later → TookBefore earlier later
          → (other : ℕ) × (one : Taken) × (another : Taken) × (other < length taken) × IsPassed taken other one another × (one.index ≡ place)
      by_revisions None later e f t = absurd t
      by_revisions (Some earlier) None e f t = absurd t
      by_revisions (Some earlier) (Some later) e f t =
          let p = passed_from _ _ (taken_of place write later f here) (taken_of at by earlier e there) o.key t o.token in
          (p.0, _, _, p.1, p.2, refl)

  -- THE FIRST ONE

  pub none_overtaken : IsFound taken (length taken) None → NoneOvertakenBefore events (length events)
  none_overtaken found = λ place at write by l here there o.
      let p = passed_somewhere place at write by here there o in
      found p.0 p.1 p.2 p.3 p.4

  pub first_overtaken : (late : Late) → IsFound taken (length taken) (Some late) → IsFirstOvertaken events late
  first_overtaken late found =
      let inside = slice_get_within taken found.at found.write found.passed.here in
      let w : Contains taken found.write = (found.at, inside, get_or_from_slice_get taken found.at found.write found.write found.passed.here) in
      let k = passing_at found.at found.by inside found.passed.before in
      let b : Contains taken found.by = (k.0, k.2, k.3) in
      record {
        write = write_of found.write;
        here = subst (λ (l : Late). slice_get events l.index ≡ Some (Offered (write_of found.write))) (sym found.named) (are.each found.write w);
        by = write_of found.by;
        there = subst (λ (l : Late). slice_get events l.by ≡ Some (Offered (write_of found.by))) (sym found.named) (are.each found.by b);
        overtaken = overtaken_from found.at found.write found.by found.passed;
        first = λ place at write by l here there o.
            (let p = passed_somewhere place at write by here there o in
            let least : late.index ≤ p.1.index = found.least p.0 p.1 p.2 p.3 p.4 in
            let same = p.5 in
            omega (arith, l, least, same));
      }

  pub judged : (first : Option Late) → IsFound taken (length taken) first
      → MatchOption first (NoneOvertakenBefore events (length events)) (IsFirstOvertaken events)
  judged None found = none_overtaken found
  judged (Some late) found = first_overtaken late found
