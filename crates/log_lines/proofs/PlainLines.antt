-- A line that is written as text, or by a value of its JSON, is the compact text of that value, and is read as it.
use Rattle.std.proofs.Common.{◌≡◌, ℕ, ◌^◌, ◌<◌, ◌≤◌, true, List, [], ◌∷◌, ◌++◌, Option, Some, codes, decimal, refl, sym, ap, ◌∙◌, arith, append-nil, append_assoc}
use Rattle.std.specs.Prelude.{IsUtf8, option_and_then}
use Rattle.std.specs.List.{list_all}
use Rattle.json.specs.Json.{Json, if_last, value}
use Rattle.json.specs.Lex.{tokens}
use Rattle.json.specs.Print.{escape, escape_byte, quoted}
use Rattle.json.specs.Tree.{HasNumbers, json_tokens}
use Rattle.json.specs.Token.{Token}
use Rattle.json.specs.Tree as tree
use Rattle.json.proofs.Printed.Decimals.{IsNumber-decimal}
use Rattle.json.proofs.Printed.Strings.{escape_byte_plain}
use Rattle.json.proofs.Printed.Tokens.{tokens-print}
use Rattle.json.proofs.Printed.Trees.{ArePrintable-json_tokens, value-json_tokens}
use Rattle.serde_json.specs.Data.{Data, depth}
use Rattle.serde_json.specs.Read.{max_depth, of_json}
use Rattle.serde_json.specs.Written.{blank, compact_text, outline}
use Rattle.serde_json.proofs.Numbers.{number_of-decimal}
use Rattle.serde_json.proofs.Texts.{print-outline}
use Rattle.key_handle.specs.declared.handle.KeyHandle.{KeyHandle}
use Rattle.job_calls.specs.declared.call.ClusterCall.TheVariants as call
use Rattle.wire.specs.declared.numerals.Numerals.TheVariants.{Either}
use Rattle.wire.specs.Handles.{handle_data}
use Rattle.log_lines.specs.LineData.{key_data, machine_data}
use Rattle.log_lines.specs.PlainLines.{IsCompactJson, is_plain, line_end}

-- TEXTS WITHOUT ESCAPES

plain_byte : (byte : ℕ) → is_plain byte ≡ true → escape_byte byte ≡ byte ∷ []
plain_byte byte h = escape_byte_plain byte (grind arith) (grind arith) (grind arith)

plain_text : (s : List ℕ) → list_all is_plain s ≡ true → escape s ≡ s
plain_text [] h = refl
plain_text (x ∷ xs) h = grind (arith, plain_byte x, plain_text xs)

quoted_plain : (s rest : List ℕ) → list_all is_plain s ≡ true → 34 ∷ (s ++ 34 ∷ rest) ≡ quoted s ++ rest
quoted_plain s rest h = rw (plain_text s h) (ap (λ t. 34 ∷ t) (sym (append_assoc s (34 ∷ []) rest)))

-- VALUES THAT ARE READ AS THEY ARE WRITTEN

-- the numbers of a value have texts that are read as them, and its members stand in order
record IsReadable (d : Data) : Type 0 where
  numbers : HasNumbers (outline d)
  value : of_json (outline d) ≡ Some d
  shallow : tree.depth (outline d) ≤ depth d
  whole : blank (outline d) ≡ outline d

-- what all of a text is, by the tree at its front
abbrev all_of : Option (Json × List Token) → Option Data
all_of found = option_and_then of_json (option_and_then (λ p. if_last p.0 p.1) found)

compact_json : (d : Data) (bytes : List ℕ) → IsReadable d → depth d ≤ max_depth → bytes ≡ compact_text d → IsUtf8 bytes → IsCompactJson bytes d
compact_json d bytes readable shallow text utf8 =
    let spelled : tokens bytes ≡ json_tokens (outline d) = ap tokens (text ∙ sym (print-outline d)) ∙ tokens-print _ (ArePrintable-json_tokens (outline d) readable.numbers) in
    record {
      text = text;
      utf8 = utf8;
      reads = ap all_of (ap (value max_depth) (spelled ∙ sym (append-nil _)) ∙ value-json_tokens (outline d) max_depth [] (omega (arith, readable.shallow, shallow))) ∙ readable.value;
      order = (outline d, spelled, readable.whole);
    }

-- A CALL THAT ASKS FOR A KEY

key_readable : (name : List ℕ) (ticket task key at : ℕ) (reply : List ℕ) → ticket < 2 ^ 64 → task < 2 ^ 64 → key < 2 ^ 64 → at < 2 ^ 64 → IsReadable (key_data name ticket task key at reply)
key_readable name ticket task key at reply ticket_fits task_fits key_fits at_fits = record {
  numbers = (IsNumber-decimal at at_fits, (tt, (tt, (IsNumber-decimal key key_fits, (IsNumber-decimal task task_fits, (IsNumber-decimal ticket ticket_fits, tt))))));
  value = rw (number_of-decimal ticket ticket_fits, number_of-decimal task task_fits, number_of-decimal key key_fits, number_of-decimal at at_fits) refl;
  shallow = omega arith;
  whole = rw (number_of-decimal ticket ticket_fits, number_of-decimal task task_fits, number_of-decimal key key_fits, number_of-decimal at at_fits) refl;
}

module _ (name : List ℕ) (ticket task key at : ℕ) (reply : List ℕ) where
  -- what is written before its end
  abbrev key_front : ℕ → List ℕ
  key_front shown = codes "{\"at\":" ++ (decimal at ++ (codes ",\"do\":\"" ++ (name ++ (codes "\",\"reply\":\"" ++ (reply ++ (codes "\",\"slice_key\":" ++ decimal shown))))))

  key_joined : (a b c d e f g h rest : List ℕ) → (a ++ (b ++ (c ++ (d ++ (e ++ (f ++ (g ++ h))))))) ++ rest ≡ a ++ (b ++ (c ++ (d ++ (e ++ (f ++ (g ++ (h ++ rest)))))))
  key_joined a b c d e f g h rest = simp append_assoc

  key_compact : list_all is_plain name ≡ true → list_all is_plain reply ≡ true → key_front key ++ line_end ticket task ≡ compact_text (key_data name ticket task key at reply)
  unfolding escape_byte
  key_compact plain_name plain_reply =
      let end = codes ",\"slice_key\":" ++ (decimal key ++ line_end ticket task) in
      let replied : codes ",\"reply\":\"" ++ (reply ++ 34 ∷ end) ≡ codes ",\"reply\":" ++ (quoted reply ++ end) = ap (λ s. codes ",\"reply\":" ++ s) (quoted_plain reply end plain_reply) in
      key_joined (codes "{\"at\":") (decimal at) (codes ",\"do\":\"") name (codes "\",\"reply\":\"") reply (codes "\",\"slice_key\":") (decimal key) (line_end ticket task)
      ∙ ap (λ s. codes "{\"at\":" ++ (decimal at ++ (codes ",\"do\":\"" ++ (name ++ 34 ∷ s)))) replied
      ∙ ap (λ s. codes "{\"at\":" ++ (decimal at ++ (codes ",\"do\":" ++ s))) (quoted_plain name (codes ",\"reply\":" ++ (quoted reply ++ end)) plain_name)

  pub key_json : (shown : ℕ) (start front bytes : List ℕ) → list_all is_plain name ≡ true → list_all is_plain reply ≡ true
      → ticket < 2 ^ 64 → task < 2 ^ 64 → key < 2 ^ 64 → at < 2 ^ 64 → IsUtf8 bytes → shown ≡ key → start ≡ [] → front ≡ start ++ key_front shown
      → bytes ≡ front ++ line_end ticket task → IsCompactJson bytes (key_data name ticket task key at reply)
  key_json shown start front bytes plain_name plain_reply ticket_fits task_fits key_fits at_fits utf8 same empty begun ended =
      let written : front ≡ key_front key = begun ∙ ap (λ s. s ++ key_front shown) empty ∙ ap key_front same in
      compact_json (key_data name ticket task key at reply) bytes (key_readable name ticket task key at reply ticket_fits task_fits key_fits at_fits) (omega arith)
      (ended ∙ ap (λ s. s ++ line_end ticket task) written ∙ key_compact plain_name plain_reply) utf8

-- A CALL THAT CHECKS A HANDLE

module _ (ticket task : ℕ) (handle : KeyHandle) (at : ℕ) (reply : List ℕ) (ticket_fits : ticket < 2 ^ 64) (task_fits : task < 2 ^ 64) (life_fits : handle.life < 2 ^ 64)
    (position_fits : handle.position < 2 ^ 64) (key_fits : handle.key < 2 ^ 64) (owner_fits : handle.task < 2 ^ 64) (at_fits : at < 2 ^ 64) where
  handle_numbers : HasNumbers (outline (handle_data Either handle))
  handle_numbers =
      (IsNumber-decimal handle.life life_fits, (IsNumber-decimal handle.position position_fits, (IsNumber-decimal handle.key key_fits, (IsNumber-decimal handle.task owner_fits, tt))))

  check_readable : IsReadable (machine_data ticket (call.Check task handle at) reply)
  check_readable = record {
    numbers = (IsNumber-decimal at at_fits, (tt, (handle_numbers, (tt, (IsNumber-decimal task task_fits, (IsNumber-decimal ticket ticket_fits, tt))))));
    value = rw (
      number_of-decimal ticket ticket_fits,
      number_of-decimal task task_fits,
      number_of-decimal handle.life life_fits,
      number_of-decimal handle.position position_fits,
      number_of-decimal handle.key key_fits,
      number_of-decimal handle.task owner_fits,
      number_of-decimal at at_fits,
    ) refl;
    shallow = omega arith;
    whole = rw (
      number_of-decimal ticket ticket_fits,
      number_of-decimal task task_fits,
      number_of-decimal handle.life life_fits,
      number_of-decimal handle.position position_fits,
      number_of-decimal handle.key key_fits,
      number_of-decimal handle.task owner_fits,
      number_of-decimal at at_fits,
    ) refl;
  }

  -- the handle's text and what follows it
  handle_compact : (rest : List ℕ)
      → codes "{\"life\":" ++ (decimal handle.life ++ (codes ",\"position\":" ++ (decimal handle.position ++ (codes ",\"slice_key\":" ++ (decimal handle.key
      ++ (codes ",\"task\":" ++ (decimal handle.task ++ 125 ∷ rest))))))) ≡ compact_text (handle_data Either handle) ++ rest
  unfolding escape_byte
  handle_compact rest =
      let owner = codes ",\"task\":" ++ (decimal handle.task ++ codes "}") in
      let key = codes ",\"slice_key\":" ++ (decimal handle.key ++ owner) in
      let position = codes ",\"position\":" ++ (decimal handle.position ++ key) in
      let from_owner : (decimal handle.key ++ owner) ++ rest ≡ decimal handle.key ++ (codes ",\"task\":" ++ (decimal handle.task ++ 125 ∷ rest)) =
      append_assoc (decimal handle.key) owner rest ∙ ap (λ s. decimal handle.key ++ (codes ",\"task\":" ++ s)) (append_assoc (decimal handle.task) (codes "}") rest) in
      let from_key : (decimal handle.position ++ key) ++ rest
      ≡ decimal handle.position ++ (codes ",\"slice_key\":" ++ (decimal handle.key ++ (codes ",\"task\":" ++ (decimal handle.task ++ 125 ∷ rest)))) =
      append_assoc (decimal handle.position) key rest ∙ ap (λ s. decimal handle.position ++ (codes ",\"slice_key\":" ++ s)) from_owner in
      sym (ap (λ s. codes "{\"life\":" ++ s) (append_assoc (decimal handle.life) position rest ∙ ap (λ s. decimal handle.life ++ (codes ",\"position\":" ++ s)) from_key))

  -- what is written before the reply
  abbrev check_front : ℕ → ℕ → List ℕ
  check_front key owner =
      codes "{\"at\":" ++ (decimal at ++ (codes ",\"do\":\"check\",\"handle\":{\"life\":" ++ (decimal handle.life ++ (codes ",\"position\":" ++ (decimal handle.position
      ++ (codes ",\"slice_key\":" ++ (decimal key ++ (codes ",\"task\":" ++ (decimal owner ++ codes "}")))))))))

  check_joined : (a b c d e f g h i j k rest : List ℕ) → (a ++ (b ++ (c ++ (d ++ (e ++ (f ++ (g ++ (h ++ (i ++ (j ++ k)))))))))) ++ rest
      ≡ a ++ (b ++ (c ++ (d ++ (e ++ (f ++ (g ++ (h ++ (i ++ (j ++ (k ++ rest))))))))))
  check_joined a b c d e f g h i j k rest = simp append_assoc

  abbrev check_reply : List ℕ
  check_reply = codes ",\"reply\":\"" ++ (reply ++ codes "\"")

  check_compact : list_all is_plain reply ≡ true
      → (check_front handle.key handle.task ++ check_reply) ++ line_end ticket task ≡ compact_text (machine_data ticket (call.Check task handle at) reply)
  unfolding escape_byte
  check_compact plain_reply =
      let end = line_end ticket task in
      let replied : check_reply ++ end ≡ codes ",\"reply\":" ++ (quoted reply ++ end) =
      ap (λ s. codes ",\"reply\":\"" ++ s) (append_assoc reply (codes "\"") end) ∙ ap (λ s. codes ",\"reply\":" ++ s) (quoted_plain reply end plain_reply) in
      append_assoc (check_front handle.key handle.task) check_reply end ∙ ap (λ s. check_front handle.key handle.task ++ s) replied
      ∙ check_joined (codes "{\"at\":") (decimal at) (codes ",\"do\":\"check\",\"handle\":{\"life\":") (decimal handle.life) (codes ",\"position\":") (decimal handle.position)
      (codes ",\"slice_key\":") (decimal handle.key) (codes ",\"task\":") (decimal handle.task) (codes "}") (codes ",\"reply\":" ++ (quoted reply ++ end))
      ∙ ap (λ s. codes "{\"at\":" ++ (decimal at ++ (codes ",\"do\":\"check\",\"handle\":" ++ s))) (handle_compact (codes ",\"reply\":" ++ (quoted reply ++ end)))

  pub check_json : (key owner : ℕ) (start front replied bytes : List ℕ) → list_all is_plain reply ≡ true → IsUtf8 bytes → key ≡ handle.key → owner ≡ handle.task → start ≡ []
      → front ≡ start ++ check_front key owner → replied ≡ front ++ check_reply → bytes ≡ replied ++ line_end ticket task
      → IsCompactJson bytes (machine_data ticket (call.Check task handle at) reply)
  check_json key owner start front replied bytes plain_reply utf8 same_key same_owner empty begun told ended =
      let written : front ≡ check_front handle.key handle.task =
      begun ∙ ap (λ s. s ++ check_front key owner) empty ∙ ap (λ k. check_front k owner) same_key ∙ ap (check_front handle.key) same_owner in
      compact_json (machine_data ticket (call.Check task handle at) reply) bytes check_readable (omega arith)
      (ended ∙ ap (λ s. s ++ line_end ticket task) (told ∙ ap (λ s. s ++ check_reply) written) ∙ check_compact plain_reply) utf8
