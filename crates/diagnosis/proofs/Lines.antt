-- Lines that are written one after the other.
use Rattle.std.proofs.Common.{◌≡◌, ◌<◌, ◌+◌, ◌∙◌, ℕ, List, [], ◌∷◌, ◌++◌, Option, IsOk, Result, Ok, Err, OnOk, get_or, length, take, ap, subst, sym}
use Rattle.std.proofs.lemmas.List.{append-nil, take_more}
use Rattle.std.proofs.lemmas.Grind.{flat_map-append}
use Rattle.std.specs.Io.KnownBytes.{Appends}
use Rattle.std.specs.List.{flat_map}
use Rattle.program_io.proofs.Bytes.{appends_more}

-- one line more, where those before it were written
pub says_more : {X A B E F : Type 0} (line : X → List ℕ) (xs : List X) (i : ℕ) (x : X) (a b c : Option (List ℕ)) (said : Result A E) (more : Result B F) → i < length xs
    → x ≡ get_or xs i x → IsOk more → OnOk said (Appends a b (flat_map line (take i xs))) → OnOk more (Appends b c (line x)) → OnOk said (Appends a c (flat_map line (take (i + 1) xs)))
says_more line xs i x a b c (Err why) more low is ok before this = tt
says_more line xs i x a b c (Ok so_far) (Err why) low is ok before this = absurd (cc)
says_more line xs i x a b c (Ok so_far) (Ok done) low is ok before this =
    let parts : flat_map line (take (i + 1) xs) ≡ flat_map line (take i xs) ++ line x =
    ap (flat_map line) (take_more xs i x low) ∙ flat_map-append line (take i xs) (get_or xs i x ∷ [])
    ∙ ap (λ (l : List ℕ). flat_map line (take i xs) ++ l) (append-nil (line (get_or xs i x)) ∙ ap line (sym is)) in
    subst (λ (l : List ℕ). Appends a c l) (sym parts) (appends_more a b c (flat_map line (take i xs)) (line x) before this)
