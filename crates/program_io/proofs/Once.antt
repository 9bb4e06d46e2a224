-- A text that was written of a value in which no object has a member twice has no member twice either.
use Rattle.std.proofs.Common.{◌≡◌, ℕ, ◌+◌, max, List, [], ◌∷◌, ◌++◌, Option, Some, None, refl, sym, ap, ◌∙◌, arith, append-nil}
use Rattle.std.specs.Prelude.{option_and_then}
use Rattle.json.specs.Token.{Token}
use Rattle.json.specs.Lex.{tokens}
use Rattle.json.specs.Json.{Json, null, boolean, number, string, array, object, Items, no_items, item, Members, no_members, member, value, if_last}
use Rattle.json.specs.Tree.{depth, json_tokens}
use Rattle.json.proofs.Found.{Some_inj}
use Rattle.json.proofs.Printed.Trees.{value-json_tokens}
use Rattle.json.proofs.Unique.Spelling.{value-json_tokens_back}
use Rattle.serde_json.specs.Data.{Data}
use Rattle.serde_json.specs.Read.{max_depth}
use Rattle.serde_json.specs.Written.{IsInOrder, blank, blank_items, blank_members, outline}
use Rattle.program_io.specs.Repeated.{first_repeated, names_of, repeated_in_items, repeated_in_members, repeated_name}

same_names : (ms : Members) → names_of (blank_members ms) ≡ names_of ms
same_names no_members = refl
same_names (member name j ms) = ap (λ (names : List (List ℕ)). name ∷ names) (same_names ms)

-- the names of a value stay where its numbers are left out
mutual
  names_stay : (j : Json) → first_repeated (blank j) ≡ first_repeated j
  names_stay null = refl
  names_stay (boolean b) = refl
  names_stay (number s) = refl
  names_stay (string s) = refl
  names_stay (array js) = items_stay js
  names_stay (object ms) = ap (λ names. repeated_in_members names 0 (blank_members ms)) (same_names ms) ∙ members_stay (names_of ms) 0 ms

  items_stay : (js : Items) → repeated_in_items (blank_items js) ≡ repeated_in_items js
  items_stay no_items = refl
  items_stay (item j js) = rw (names_stay j, items_stay js) refl

  members_stay : (names : List (List ℕ)) (place : ℕ) (ms : Members) → repeated_in_members names place (blank_members ms) ≡ repeated_in_members names place ms
  members_stay names place no_members = refl
  members_stay names place (member name j ms) = rw (names_stay j, members_stay names (place + 1) ms) refl

-- tokens are those of one value
one_tree : (i j : Json) → json_tokens i ≡ json_tokens j → i ≡ j
one_tree i j same =
    let most = max (depth i) (depth j) in
    let first = value-json_tokens i most [] (omega arith) in
    let second = value-json_tokens j most [] (omega arith) in
    ap (λ p. p.0) (Some_inj _ _ (sym first ∙ ap (λ ts. value most (ts ++ [])) same ∙ second))

module _ (text : List ℕ) (d : Data) (written : IsInOrder text d) (once : first_repeated (outline d) ≡ None) where
  none_in : (j : Json) → tokens text ≡ json_tokens j → first_repeated j ≡ None
  none_in j spelled =
      let same : written.0 ≡ j = one_tree written.0 j (sym written.1 ∙ spelled) in
      sym (names_stay j) ∙ ap (λ k. first_repeated (blank k)) (sym same) ∙ ap first_repeated written.2 ∙ once

  none_read : (o : Option (Json × List Token)) → value max_depth (tokens text) ≡ o → option_and_then first_repeated (option_and_then (λ p. if_last p.0 p.1) o) ≡ None
  none_read None e = refl
  none_read (Some (j, [])) e = none_in j (value-json_tokens_back max_depth (tokens text) [] j e ∙ append-nil _)
  none_read (Some (j, t ∷ ts)) e = refl

  pub written_once : repeated_name text ≡ None
  written_once = none_read _ refl
