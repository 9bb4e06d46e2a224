-- Which lines a trace tells, one more at a time.
use Rattle.std.proofs.Common.{◌≡◌, ◌≤◌, Bool, true, false, not, List, [], ◌∷◌, ◌++◌, length, refl, ap, arith}
use Rattle.std.specs.Prelude.{if◌then◌else◌}
use Rattle.log_trace.specs.declared.line.LogLine.{LogLine}
use Rattle.log_trace.specs.Traces.{right_lines, wrong_lines}

module _ (next : LogLine) where
  -- a right line after lines that are all right
  right_first : (told : Bool) (line : LogLine) (lines : List LogLine) → (if told then wrong_lines lines else line ∷ wrong_lines lines) ≡ []
      → (told ≡ true) × (wrong_lines lines ≡ [])
  right_first true line lines none = (refl, none)
  right_first false line lines none = absurd (cc)

  right_step : (told : Bool) (line : LogLine) (before after last : List LogLine) → told ≡ true → after ≡ before ++ last
      → (if told then line ∷ after else []) ≡ (if told then line ∷ before else []) ++ last
  right_step true line before after last is same = ap (λ (ls : List LogLine). line ∷ ls) same
  right_step false line before after last is same = absurd (let f : false ≡ true = is in cc)

  pub right_more : (lines : List LogLine) → next.is_told ≡ true → wrong_lines lines ≡ [] → right_lines (lines ++ next ∷ []) ≡ right_lines lines ++ next ∷ []
  right_more [] right none = rw right refl
  right_more (line ∷ lines) right none =
      let first = right_first line.is_told line lines none in
      right_step line.is_told line (right_lines lines) (right_lines (lines ++ next ∷ [])) (next ∷ []) first.0 (right_more lines right first.1)

  -- a right line after a wrong one
  after_wrong : (told : Bool) (line : LogLine) (before after : List LogLine) → (told ≡ true → after ≡ before)
      → (if told then line ∷ after else []) ≡ (if told then line ∷ before else [])
  after_wrong true line before after same = ap (λ (ls : List LogLine). line ∷ ls) (same refl)
  after_wrong false line before after same = refl

  some_wrong : (told : Bool) (line : LogLine) (lines : List LogLine) → told ≡ true → ((if told then wrong_lines lines else line ∷ wrong_lines lines) ≡ [] → ⊥)
      → wrong_lines lines ≡ [] → ⊥
  some_wrong true line lines is some none = some none
  some_wrong false line lines is some none = absurd (let f : false ≡ true = is in cc)

  pub right_after : (lines : List LogLine) → (wrong_lines lines ≡ [] → ⊥) → right_lines (lines ++ next ∷ []) ≡ right_lines lines
  right_after [] some = absurd (some refl)
  right_after (line ∷ lines) some = after_wrong line.is_told line (right_lines lines) (right_lines (lines ++ next ∷ []))
      (λ told. right_after lines (some_wrong line.is_told line lines told some))

  -- a wrong line ends the right ones
  pub right_ends : (lines : List LogLine) → next.is_told ≡ false → right_lines (lines ++ next ∷ []) ≡ right_lines lines
  right_ends [] wrong = rw wrong refl
  right_ends (line ∷ lines) wrong = after_wrong line.is_told line (right_lines lines) (right_lines (lines ++ next ∷ [])) (λ told. right_ends lines wrong)

  one_wrong : (told : Bool) (line : LogLine) (before after last : List LogLine) → after ≡ before ++ last
      → (if told then after else line ∷ after) ≡ (if told then before else line ∷ before) ++ last
  one_wrong true line before after last same = same
  one_wrong false line before after last same = ap (λ (ls : List LogLine). line ∷ ls) same

  pub wrong_more : (lines : List LogLine) → next.is_told ≡ false → wrong_lines (lines ++ next ∷ []) ≡ wrong_lines lines ++ next ∷ []
  wrong_more [] wrong = rw wrong refl
  wrong_more (line ∷ lines) wrong = one_wrong line.is_told line (wrong_lines lines) (wrong_lines (lines ++ next ∷ [])) (next ∷ []) (wrong_more lines wrong)

  same_wrong : (told : Bool) (line : LogLine) (before after : List LogLine) → after ≡ before
      → (if told then after else line ∷ after) ≡ (if told then before else line ∷ before)
  same_wrong true line before after same = same
  same_wrong false line before after same = ap (λ (ls : List LogLine). line ∷ ls) same

  pub wrong_same : (lines : List LogLine) → next.is_told ≡ true → wrong_lines (lines ++ next ∷ []) ≡ wrong_lines lines
  wrong_same [] right = rw right refl
  wrong_same (line ∷ lines) right = same_wrong line.is_told line (wrong_lines lines) (wrong_lines (lines ++ next ∷ [])) (wrong_same lines right)

-- no lines, and some
pub none_left : (lines : List LogLine) → length lines ≡ 0 → lines ≡ []
none_left [] is = refl
none_left (line ∷ lines) is = absurd (omega (arith, is))

pub some_left : (lines : List LogLine) → 1 ≤ length lines → lines ≡ [] → ⊥
some_left [] some none = absurd (omega (arith, some))
some_left (line ∷ lines) some none = absurd (cc)

-- a test that is turned round
pub turned_true : (b : Bool) → not b ≡ true → b ≡ false
turned_true true is = absurd (let f : false ≡ true = is in cc)
turned_true false is = refl

pub turned_false : (b : Bool) → not b ≡ false → b ≡ true
turned_false true is = refl
turned_false false is = absurd (let f : true ≡ false = is in cc)
