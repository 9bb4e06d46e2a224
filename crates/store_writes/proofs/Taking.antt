-- Writes that the store took, event by event.
use Rattle.std.proofs.Common.{◌≡◌, ℕ, ◌+◌, ◌<◌, ◌⊎◌, inl, inr, Bool, true, false, List, [], ◌∷◌, ◌++◌, length, refl, sym, ◌∙◌, ap, subst, arith, eqb-true}
use Rattle.std.specs.Prelude.{◌==◌, slice_get, slice_index_or, Option, Some, None, option_to_list}
use Rattle.std.specs.List.{Contains}
use Rattle.std.proofs.lemmas.Bool.Decides.{nat_tests}
use Rattle.std.proofs.lemmas.List.Elements.{Contains-append_left, Contains-append_right, Contains-append_cases}
use Rattle.std.proofs.lemmas.Option.{slice_get_within}
use Rattle.store_writes.specs.declared.write.Write.{Write}
use Rattle.store_writes.specs.declared.write.WriteEvent.{WriteEvent}
use Rattle.store_writes.specs.declared.write.WriteEvent.TheVariants.{Given, Offered}
use Rattle.store_writes.specs.declared.taken.Taken.{Taken}
use Rattle.store_writes.specs.internals.Firsts.{AreTaken, AreTakenBefore, IsTakenIn, taken_at, taken_by, write_of}

-- the only element of a list
pub contains_one : (one write : Taken) → Contains (one ∷ []) write → one ≡ write
contains_one one write c =
    let zero : c.0 ≡ 0 = (let l = c.1 in omega (arith, l)) in
    ap (λ (k : ℕ). slice_index_or (one ∷ []) k write) (sym zero) ∙ c.2

module _ (events : List WriteEvent) (index : ℕ) (event : WriteEvent) (here : slice_get events index ≡ Some event) where
  -- the write of this event is the one at its index
  pub taken_here : (write : Taken) → taken_at index event ≡ Some write → IsTakenIn events write
  taken_here write e = subst (λ (i : ℕ). slice_get events i ≡ Some (Offered (write_of write))) (parts event e).0 (here ∙ ap (λ (x : WriteEvent). Some x) (parts event e).1)
    where
      by_revision : (w : Write) (r : Option ℕ) → w.revision ≡ r → taken_by index w r ≡ Some write → (index ≡ write.index) × (Offered w ≡ Offered (write_of write))
      by_revision w None is t = absurd (let h : None ≡ Some write = t in cc)
      by_revision w (Some revision) is t =
          let one : record { index = index; key = w.key; token = w.token; revision = revision } ≡ write = cc in (
            ap (λ (x : Taken). x.index) one,
            ap (λ (r : Option ℕ). Offered record { key = w.key; token = w.token; revision = r }) is ∙ ap (λ (x : Taken). Offered (write_of x)) one,
          )

      parts : (other : WriteEvent) → taken_at index other ≡ Some write → (index ≡ write.index) × (other ≡ Offered (write_of write))
      parts (Given token) t = absurd (let h : None ≡ Some write = t in cc)
      parts (Offered w) t = by_revision w w.revision refl t

  -- a write at this index is that of this event
  pub is_taken_here : (write : Taken) → write.index ≡ index → IsTakenIn events write → taken_at index event ≡ Some write
  is_taken_here write same taken =
      let at : slice_get events index ≡ Some (Offered (write_of write)) = subst (λ (i : ℕ). slice_get events i ≡ Some (Offered (write_of write))) same taken in
      let both : Some event ≡ Some (Offered (write_of write)) = sym here ∙ at in
      let is : event ≡ Offered (write_of write) = cc in
      ap (taken_at index) is ∙ ap (λ (i : ℕ). Some record { index = i; key = write.key; token = write.token; revision = write.revision }) (sym same)

  pub taken_next : (taken : List Taken) → AreTakenBefore events index taken → AreTakenBefore events (index + 1) (taken ++ option_to_list (taken_at index event))
  taken_next taken are = record { each = each; all = all }
    where
      new : (found : Option Taken) → taken_at index event ≡ found → (write : Taken) → Contains (option_to_list found) write → IsTakenIn events write
      new None e write c = absurd (let l = c.1 in omega (arith, l))
      new (Some one) e write in_it = taken_here write (e ∙ ap (λ (t : Taken). Some t) (contains_one one write in_it))

      each : (write : Taken) → Contains (taken ++ option_to_list (taken_at index event)) write → IsTakenIn events write
      each write in_all = either (Contains-append_cases taken (option_to_list (taken_at index event)) write in_all)
        where
          either : Contains taken write ⊎ Contains (option_to_list (taken_at index event)) write → IsTakenIn events write
          either (inl before) = are.each write before
          either (inr last) = new (taken_at index event) refl write last

      all : (write : Taken) → write.index < index + 1 → IsTakenIn events write → Contains (taken ++ option_to_list (taken_at index event)) write
      all write l is = by_place (write.index == index) refl
        where
          by_place : (b : Bool) → b ≡ (write.index == index) → Contains (taken ++ option_to_list (taken_at index event)) write
          by_place true e =
              let same = eqb-true write.index index (sym e) in
              Contains-append_right taken (option_to_list (taken_at index event)) write
              (subst (λ (o : Option Taken). Contains (option_to_list o) write) (sym (is_taken_here write same is)) (0, omega (arith), refl))
          by_place false e = Contains-append_left taken (option_to_list (taken_at index event)) write (are.all write (grind (arith, nat_tests)) is)

-- the writes of all events
pub taken_all : (events : List WriteEvent) (index : ℕ) (taken : List Taken) → length events ≡ index → AreTakenBefore events index taken → AreTaken events taken
taken_all events index taken count are = record { each = are.each; all = λ write is. are.all write (let l = slice_get_within events write.index _ is in omega (arith, l, count)) is }
