-- What a `Value` shows of its members and elements.
use Rattle.std.proofs.Common.{◌≡◌, ℕ, ◌+◌, ◌&&◌, ◌∙◌, List, [], ◌∷◌, ◌++◌, length, map, refl, ap, Bor, Bool}
use Rattle.std.specs.List.{list_all}
use Rattle.std.proofs.lemmas.List.{length-append, length-map}
use Rattle.std.proofs.lemmas.List.Folds.{list_all-append, list_all-map}
use Rattle.serde_json.specs.Data.{Data}
use Rattle.serde_json.specs.Events.{members_len}
use Rattle.serde_json.specs.View.{view, items_of, items_view, members_view}
use Rattle.serde_json.specs.declared.value.Value.{Value}
use Rattle.serde_json.proofs.Views.{Entry, members_len-members_view}
use Rattle.program_io.specs.Members.{elements}

pub elements_items : (ds : List Data) → elements (items_of ds) ≡ ds
elements_items [] = refl
elements_items (d ∷ ds) = ap (λ (xs : List Data). d ∷ xs) (elements_items ds)

pub elements_view : (vs : List Value) → elements (items_view vs) ≡ map view vs
elements_view vs = elements_items (map view vs)

pub members_len_view : (es : List Entry) → members_len (members_view es) ≡ length es
members_len_view es = members_len-members_view es

pub all_of_names : (p : List ℕ → Bool) (names : List (Bor (List ℕ))) → list_all p (map (λ (n : Bor (List ℕ)). n.now) names) ≡ list_all (λ (n : Bor (List ℕ)). p n.now) names
all_of_names p names = list_all-map p (λ (n : Bor (List ℕ)). n.now) names

pub length_of_names : (names : List (Bor (List ℕ))) → length (map (λ (n : Bor (List ℕ)). n.now) names) ≡ length names
length_of_names names = length-map names (λ (n : Bor (List ℕ)). n.now)

pub all_of_both : (p : List ℕ → Bool) (names others : List (Bor (List ℕ))) → list_all p (map (λ (n : Bor (List ℕ)). n.now) names ++ map (λ (n : Bor (List ℕ)). n.now) others) ≡ (list_all (λ (n : Bor (List ℕ)). p n.now) names && list_all (λ (n : Bor (List ℕ)). p n.now) others)
all_of_both p names others = list_all-append p (map (λ (n : Bor (List ℕ)). n.now) names) (map (λ (n : Bor (List ℕ)). n.now) others) ∙ rw (all_of_names p names, all_of_names p others) refl

pub length_of_both : (names others : List (Bor (List ℕ))) → length (map (λ (n : Bor (List ℕ)). n.now) names ++ map (λ (n : Bor (List ℕ)). n.now) others) ≡ length names + length others
length_of_both names others = length-append (map (λ (n : Bor (List ℕ)). n.now) names) (map (λ (n : Bor (List ℕ)). n.now) others) ∙ rw (length_of_names names, length_of_names others) refl
