-- Shelves, write by write.
use Rattle.std.proofs.Common.{◌≡◌, ℕ, ◌⊎◌, inl, inr, Bool, true, false, List, [], ◌∷◌, ◌++◌, refl, sym, ◌∙◌, ap, subst, arith}
use Rattle.std.specs.Prelude.{Option, Some, None, is_some, if◌then◌else◌, nat_eq}
use Rattle.std.specs.List.{Contains}
use Rattle.std.specs.HashMap.{get}
use Rattle.std.proofs.lemmas.Bool.Decides.{nat_tests}
use Rattle.std.proofs.lemmas.List.Elements.{Contains-append_left, Contains-push, Contains-push_cases}
use Rattle.fence.specs.Tokens.{IsUpTo}
use Rattle.store_writes.specs.declared.taken.Taken.{Taken}
use Rattle.store_writes.specs.declared.shelves.Shelves.{Shelves}
use Rattle.store_writes.specs.internals.Firsts.{AreGreatest, IsGreaterBefore, IsGreatest, IsKept, IsWithout}
use Rattle.store_writes.proofs.Tokens.{below_unless, below_up_to, not_both, up_to_itself, up_to_trans, up_to_unless}

-- WHETHER A WRITE BEFORE IS GREATER

pub none_of_key : (before : List Taken) (write : Taken) → IsWithout before write.key → IsGreaterBefore before write None
none_of_key before write without other in_it above = without other in_it above.key

pub none_greater : (before : List Taken) (write greatest : Taken) → IsGreatest before write.key greatest → IsUpTo greatest.token write.token
    → IsGreaterBefore before write None
none_greater before write greatest is up other in_it above =
    not_both write.token other.token above.token
    (up_to_trans other.token greatest.token write.token (is.most other in_it above.key) up)

pub is_greater : (before : List Taken) (write greatest : Taken) → IsGreatest before write.key greatest → (IsUpTo greatest.token write.token → ⊥)
    → IsGreaterBefore before write (Some greatest)
is_greater before write greatest is never = (is.is, record { key = is.of_key; token = below_unless write.token greatest.token never })

-- ONE MORE WRITE

module _ (before : List Taken) (write : Taken) where
  -- of another key, nothing changes
  kept_apart : (key : ℕ) → (write.key ≡ key → ⊥) → (kept : Option Taken) → IsKept before key kept → IsKept (before ++ write ∷ []) key kept
  kept_apart key other None without = λ one in_it same. either one same (Contains-push_cases before write one in_it)
    where
      either : (one : Taken) → one.key ≡ key → Contains before one ⊎ (write ≡ one) → ⊥
      either one same (inl old) = without one old same
      either one same (inr is) = other (ap (λ (t : Taken). t.key) is ∙ same)
  kept_apart key other (Some greatest) is =
      record { is = Contains-append_left before (write ∷ []) greatest is.is; of_key = is.of_key; most = λ one in_it same. either one same (Contains-push_cases before write one in_it) }
    where
      either : (one : Taken) → one.key ≡ key → Contains before one ⊎ (write ≡ one) → IsUpTo one.token greatest.token
      either one same (inl old) = is.most one old same
      either one same (inr e) = absurd (other (ap (λ (t : Taken). t.key) e ∙ same))

  -- of its key it is the greatest, if none before is greater
  now_greatest : IsGreaterBefore before write None → IsGreatest (before ++ write ∷ []) write.key write
  now_greatest none =
      record { is = Contains-push before write; of_key = refl; most = λ one in_it same. either one same (Contains-push_cases before write one in_it) }
    where
      either : (one : Taken) → one.key ≡ write.key → Contains before one ⊎ (write ≡ one) → IsUpTo one.token write.token
      either one same (inl old) = up_to_unless one.token write.token (λ below. none one old record { key = same; token = below })
      either one same (inr e) = subst (λ (t : Taken). IsUpTo t.token write.token) e (up_to_itself write.token)

  -- of its key nothing changes, if one before is greater
  still_greatest : (greater : Taken) → IsGreaterBefore before write (Some greater) → (kept : Option Taken) → IsKept before write.key kept
      → IsKept (before ++ write ∷ []) write.key kept
  still_greatest greater above None without = absurd (without greater above.0 above.1.key)
  still_greatest greater above (Some greatest) is =
      record { is = Contains-append_left before (write ∷ []) greatest is.is; of_key = is.of_key; most = λ one in_it same. either one same (Contains-push_cases before write one in_it) }
    where
      either : (one : Taken) → one.key ≡ write.key → Contains before one ⊎ (write ≡ one) → IsUpTo one.token greatest.token
      either one same (inl old) = is.most one old same
      either one same (inr e) =
          subst (λ (t : Taken). IsUpTo t.token greatest.token) e
          (up_to_trans write.token greater.token greatest.token (below_up_to write.token greater.token above.1.token) (is.most greater above.0 above.1.key))

  -- the shelves after a write that is the greatest of its key
  pub shelves_with : (old new : Shelves) → AreGreatest before old → IsGreaterBefore before write None
      → ((key : ℕ) → get nat_eq new.by_key key ≡ (if nat_eq write.key key then Some write else get nat_eq old.by_key key)) → AreGreatest (before ++ write ∷ []) new
  shelves_with old new are none updates key = by_key (nat_eq write.key key) refl
    where
      by_key : (b : Bool) → b ≡ nat_eq write.key key → IsKept (before ++ write ∷ []) key (get nat_eq new.by_key key)
      by_key true e =
          let same : write.key ≡ key = grind (arith, nat_tests) in
          let has : get nat_eq new.by_key key ≡ Some write = updates key ∙ ap (λ (b : Bool). if b then Some write else get nat_eq old.by_key key) (sym e) in
          subst (λ (o : Option Taken). IsKept (before ++ write ∷ []) key o) (sym has)
          (subst (λ (k : ℕ). IsGreatest (before ++ write ∷ []) k write) same (now_greatest none))
      by_key false e =
          let other : write.key ≡ key → ⊥ = λ same. (let t : nat_eq write.key key ≡ true = grind (arith, nat_tests) in let h : true ≡ false = sym t ∙ sym e in cc) in
          let has : get nat_eq new.by_key key ≡ get nat_eq old.by_key key = updates key ∙ ap (λ (b : Bool). if b then Some write else get nat_eq old.by_key key) (sym e) in
          subst (λ (o : Option Taken). IsKept (before ++ write ∷ []) key o) (sym has) (kept_apart key other (get nat_eq old.by_key key) (are key))

  -- the shelves after a write that is not
  pub shelves_without : (old : Shelves) (greater : Taken) → AreGreatest before old → IsGreaterBefore before write (Some greater) → AreGreatest (before ++ write ∷ []) old
  shelves_without old greater are above key = by_key (nat_eq write.key key) refl
    where
      by_key : (b : Bool) → b ≡ nat_eq write.key key → IsKept (before ++ write ∷ []) key (get nat_eq old.by_key key)
      by_key true e =
          let same : write.key ≡ key = grind (arith, nat_tests) in
          subst (λ (k : ℕ). IsKept (before ++ write ∷ []) k (get nat_eq old.by_key k)) same
          (still_greatest greater above (get nat_eq old.by_key write.key) (are write.key))
      by_key false e =
          let other : write.key ≡ key → ⊥ = λ same. (let t : nat_eq write.key key ≡ true = grind (arith, nat_tests) in let h : true ≡ false = sym t ∙ sym e in cc) in
          kept_apart key other (get nat_eq old.by_key key) (are key)

  -- the shelves are changed where no write before is greater
  pub shelves_changed : (old new : Shelves) (greater : Option Taken) → AreGreatest before old → IsGreaterBefore before write greater → is_some greater ≡ false
      → ((key : ℕ) → get nat_eq new.by_key key ≡ (if nat_eq write.key key then Some write else get nat_eq old.by_key key)) → AreGreatest (before ++ write ∷ []) new
  shelves_changed old new None are told none updates = shelves_with old new are told updates
  shelves_changed old new (Some greater) are told none updates = absurd (let h : true ≡ false = none in cc)

  -- and stay where one is
  pub shelves_unchanged : (old : Shelves) (greater : Option Taken) → AreGreatest before old → IsGreaterBefore before write greater → is_some greater ≡ true
      → AreGreatest (before ++ write ∷ []) old
  shelves_unchanged old None are told some = absurd (let h : false ≡ true = some in cc)
  shelves_unchanged old (Some greater) are told some = shelves_without old greater are told
