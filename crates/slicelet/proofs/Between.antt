-- A continuous handle's key was permitted at every point since it was taken.
use Rattle.std.proofs.Common.{◌≡◌, ◌∙◌, ℕ, ◌≤◌, Bool, List, [], ◌∷◌, ◌++◌, length, sym}
use Rattle.std.proofs.lemmas.List.{append_assoc}
use Rattle.std.specs.Prelude.{IsTrue}
use Rattle.grants.specs.declared.values.Grant.{Grant}
use Rattle.grants.specs.declared.slicelet_call.SliceletCall.{SliceletCall}
use Rattle.slicelet.specs.Calls.{reading_of}
use Rattle.slicelet.specs.Rules.{is_permitted}
use Rattle.slicelet.specs.Continuity.{IsKeptSince, next_reading}

module _ (covers : Grant → Bool) (position : ℕ) (whole : List SliceletCall) (kept : IsKeptSince position covers whole) where
  -- the first of the calls after the point finds the key permitted
  pub next_finds : (c : SliceletCall) (later point front : List SliceletCall) → whole ≡ front ++ c ∷ (later ++ point) → position ≤ length point
      → IsTrue (is_permitted covers point (next_reading later (reading_of c)))
  next_finds c [] point front e l = (kept front point c e l).0
  next_finds c (d ∷ later) point front e l = next_finds d later point (front ++ c ∷ []) (e ∙ sym (append_assoc front (c ∷ []) (d ∷ (later ++ point)))) l
