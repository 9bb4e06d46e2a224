-- A set of names beside the list of names that were put into it, and one turn over the members of an object.
use Rattle.std.proofs.Common.{◌≡◌, ℕ, zero, suc, ◌+◌, ◌<◌, List, [], ◌∷◌, ◌++◌, map, length, take, get_or, Bool, true, false, true≢false, not, ◌||◌, cond, Some, None, Bor, Ordering, bytes_eq, nat_cmp, refl, sym, ap, ◌∙◌}
use Rattle.std.proofs.lemmas.List.{map-append, take_more}
use Rattle.std.proofs.lemmas.Map.Text.{is_eq-slice_cmp}
use Rattle.std.specs.BTreeSet.{BTreeSet, contains, Updates}
use Rattle.std.specs.Cmp.Lexicographic.{slice_cmp}
use Rattle.json.specs.Json.{Json, Members, member}
use Rattle.json.specs.Value.{members_view}
use Rattle.json.specs.declared.value.Value.{Value}
use Rattle.program_io.specs.Repeated.{first_repeated, is_among, names_of, repeated_in_members}

abbrev pub name_cmp : Bor (List ℕ) → Bor (List ℕ) → Ordering
name_cmp x y = slice_cmp nat_cmp x.now y.now

-- the set has these names
abbrev pub HasNames : BTreeSet (Bor (List ℕ)) → List (List ℕ) → Type 0
HasNames s names = (q : Bor (List ℕ)) → contains name_cmp s q ≡ is_among names q.now

-- the names of members
abbrev pub names_in : {Z : Type 0} → List (Bor (List ℕ) × Value Z) → List (List ℕ)
names_in xs = map (λ m. m.0.now) xs

one_among : (names : List (List ℕ)) (name other : List ℕ) → is_among (names ++ name ∷ []) other ≡ cond (bytes_eq name other) true (is_among names other)
one_among [] name other = last (bytes_eq name other)
  where
    last : (b : Bool) → (b || false) ≡ cond b true false
    last true = refl
    last false = refl
one_among (first ∷ names) name other = rw (one_among names name other) (in_front (bytes_eq first other) (bytes_eq name other) (is_among names other))
  where
    in_front : (a b c : Bool) → (a || cond b true c) ≡ cond b true (a || c)
    in_front true true c = refl
    in_front true false c = refl
    in_front false true c = refl
    in_front false false c = refl

pub one_name_more : (s n : BTreeSet (Bor (List ℕ))) (name : Bor (List ℕ)) (names : List (List ℕ)) → Updates name_cmp s n name true → HasNames s names → HasNames n (names ++ name.now ∷ [])
one_name_more s n name names updates has q = updates.0 q ∙ rw (is_eq-slice_cmp name.now q.now, has q) (sym (one_among names name.now q.now))

pub was_there : (added has : Bool) → added ≡ not has → added ≡ false → has ≡ true
was_there added true e none = refl
was_there added false e none = absurd (true≢false (sym e ∙ none))

pub was_new : (added has : Bool) → added ≡ not has → added ≡ true → has ≡ false
was_new added false e some = refl
was_new added true e some = absurd (true≢false (sym some ∙ e))

-- the names before a place
names_before : {Z : Type 0} (xs : List (Bor (List ℕ) × Value Z)) (place : ℕ) → take place (names_of (members_view xs)) ≡ names_in (take place xs)
names_before [] zero = refl
names_before [] (suc place) = refl
names_before (x ∷ xs) zero = refl
names_before (x ∷ xs) (suc place) = ap (λ (names : List (List ℕ)). x.0.now ∷ names) (names_before xs place)

pub among_before : {Z : Type 0} (xs : List (Bor (List ℕ) × Value Z)) (place : ℕ) (name : List ℕ) → is_among (take place (names_of (members_view xs))) name ≡ is_among (names_in (take place xs)) name
among_before xs place name = ap (λ names. is_among names name) (names_before xs place)

pub one_place_more : {Z : Type 0} (xs : List (Bor (List ℕ) × Value Z)) (place : ℕ) (x : Bor (List ℕ) × Value Z) → place < length xs → x ≡ get_or xs place x
    → names_in (take (place + 1) xs) ≡ names_in (take place xs) ++ x.0.now ∷ []
one_place_more {Z} xs place x within is =
    ap (λ (ys : List (Bor (List ℕ) × Value Z)). names_in ys) (take_more xs place x within ∙ ap (λ (y : Bor (List ℕ) × Value Z). take place xs ++ y ∷ []) (sym is))
    ∙ map-append (λ m. m.0.now) (take place xs) (x ∷ [])

module _ (names : List (List ℕ)) (place : ℕ) (name : List ℕ) (j : Json) (ms : Members) where
  pub repeats : is_among (take place names) name ≡ true → repeated_in_members names place (member name j ms) ≡ Some name
  repeats e = rw e refl

  pub repeats_inside : is_among (take place names) name ≡ false → (inner : List ℕ) → Some inner ≡ first_repeated j → repeated_in_members names place (member name j ms) ≡ Some inner
  repeats_inside e inner found = rw (e, ← found) refl

  pub goes_on : is_among (take place names) name ≡ false → None ≡ first_repeated j → repeated_in_members names place (member name j ms) ≡ repeated_in_members names (place + 1) ms
  goes_on e none = rw (e, ← none) refl
