-- The keys in a set that is found.
use Rattle.std.proofs.Common.{◌≡◌, ◌∙◌, ℕ, ◌++◌, Bool, true, false, List, [], ◌∷◌, refl, ap, arith}
use Rattle.std.specs.Prelude.{◌==◌, if◌then◌else◌, Some, find, option_map}
use Rattle.std.proofs.lemmas.Bool.Decides.{nat_tests}
use Rattle.machines.proofs.Every.{all_push}
use Rattle.slice_ranges.specs.Sets.{keys_where}
use Rattle.lease_table.specs.declared.key_sets.KeySet.{KeySet}
use Rattle.lease_table.specs.internals.KeySets.{keys_in, AreKeysBy}

-- what is found is what the task owns
pub keys_owned : (owned : ℕ → ℕ → Bool) (task : ℕ) (keys : List ℕ) (sets : List KeySet) → AreKeysBy owned sets → Some keys ≡ keys_in sets task → keys ≡ keys_where (owned task)
keys_owned owned task keys [] all found = absurd (cc)
keys_owned owned task keys (set ∷ sets) all found = by_test (set.task == task) refl (keys_owned owned task keys sets all.1) found
  where
    by_test : (same : Bool) → (set.task == task) ≡ same → (Some keys ≡ keys_in sets task → keys ≡ keys_where (owned task))
        → Some keys ≡ option_map (λ (s : KeySet). s.keys) (if same then Some set else find (λ (s : KeySet). s.task == task) sets) → keys ≡ keys_where (owned task)
    by_test true e rest found =
        let its : keys ≡ set.keys = cc in
        let named : set.task ≡ task = grind (arith, nat_tests) in
        its ∙ all.0 ∙ ap (λ (n : ℕ). keys_where (owned n)) named
    by_test false e rest found = rest found

-- a set more
pub keys_added : (owned : ℕ → ℕ → Bool) (sets : List KeySet) (task : ℕ) (keys : List ℕ) → AreKeysBy owned sets → keys ≡ keys_where (owned task)
    → AreKeysBy owned (sets ++ record { task = task; keys = keys } ∷ [])
keys_added owned sets task keys all its = all_push (λ (s : KeySet). s.keys ≡ keys_where (owned s.task)) sets (record { task = task; keys = keys }) all its
