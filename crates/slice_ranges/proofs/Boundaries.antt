-- Facts on lists of boundaries.
use Rattle.std.proofs.Common.{◌≡◌, ℕ, ◌+◌, ◌<◌, ◌≤◌, Bool, not, List, [], ◌∷◌, ◌++◌, refl, arith}
use Rattle.std.proofs.lemmas.Bool.{lt-ltb, le-ltb}
use Rattle.slice_ranges.specs.Sets.{inside_after, Rises}
use Rattle.slice_ranges.specs.Passing.{StartsAt}

-- below its first boundary a list turns nothing
pub inside_below : (s : Bool) (bs : List ℕ) (m k : ℕ) → StartsAt m bs → k < m → inside_after s bs k ≡ s
inside_below s [] m k h l = refl
inside_below s (b ∷ bs) m k h l = rw (lt-ltb k b (omega arith))

pub rises_starts : (low : ℕ) (bs : List ℕ) (high : ℕ) → Rises low bs high → StartsAt low bs
rises_starts low [] high r = tt
rises_starts low (b ∷ bs) high r = r.0

-- a list that rises from low on rises from each m that is not above its first boundary
pub rises_from : (low m : ℕ) (bs : List ℕ) (high : ℕ) → Rises low bs high → StartsAt m bs → m ≤ high → Rises m bs high
rises_from low m [] high r h l = l
rises_from low m (b ∷ bs) high r h l = (h, r.1)

pub rises_below : (low : ℕ) (bs : List ℕ) (high m : ℕ) → Rises low bs high → high ≤ m → Rises low bs m
rises_below low [] high m r h = omega arith
rises_below low (b ∷ bs) high m r h = (r.0, rises_below (b + 1) bs high m r.1 h)

pub rises_push : (low : ℕ) (bs : List ℕ) (high m : ℕ) → Rises low bs high → high ≤ m → Rises low (bs ++ m ∷ []) (m + 1)
rises_push low [] high m r h = (omega arith, omega arith)
rises_push low (b ∷ bs) high m r h = (r.0, rises_push (b + 1) bs high m r.1 h)

pub rises_bounds : (low : ℕ) (bs : List ℕ) (high : ℕ) → Rises low bs high → low ≤ high
rises_bounds low [] high r = r
rises_bounds low (b ∷ bs) high r = let h = rises_bounds (b + 1) bs high r.1 in omega (arith, r.0)

-- one more boundary at the end
pub inside_push_below : (s : Bool) (bs : List ℕ) (m k : ℕ) → k < m → inside_after s (bs ++ m ∷ []) k ≡ inside_after s bs k
inside_push_below s [] m k l = rw (lt-ltb k m l)
inside_push_below s (b ∷ bs) m k l = rw (inside_push_below (not s) bs m k l)

pub inside_push_above : (s : Bool) (low : ℕ) (bs : List ℕ) (high m k : ℕ) → Rises low bs high → high ≤ m → m ≤ k → inside_after s (bs ++ m ∷ []) k ≡ not (inside_after s bs k)
inside_push_above s low [] high m k r h l = rw (le-ltb k m l)
inside_push_above s low (b ∷ bs) high m k r h l =
    let q : b + 1 ≤ high = rises_bounds (b + 1) bs high r.1 in
    let p : b ≤ k = omega arith in
    rw (le-ltb k b p) (inside_push_above (not s) (b + 1) bs high m k r.1 h l)
