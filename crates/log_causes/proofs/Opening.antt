-- Entries with one more, and the last start and the greatest life of a task among entries.
use Rattle.std.proofs.Common.{◌≡◌, ◌∙◌, ℕ, ◌+◌, ◌-◌, ◌<◌, ◌≤◌, max, Bool, true, false, List, [], ◌∷◌, ◌++◌, length, get_or, take, refl, sym, ap, subst, arith}
use Rattle.std.specs.Prelude.{Option, Some, None, IfSome, insert, if◌then◌else◌}
use Rattle.std.proofs.lemmas.List.{take_all, take_more, length-take-le}
use Rattle.std.proofs.lemmas.List.Edits.{length-insert, get_or-insert_below, get_or-insert_at, get_or-insert_above}
use Rattle.log_line.specs.declared.entry.LogEntry.{LogEntry}
use Rattle.log_causes.specs.Hints.{begun_life, greatest_life, is_start, last_start, later_start, with_open}
use Rattle.log_causes.specs.internals.Opening.{IsEntryAt}

module _ (entries : List LogEntry) (place : ℕ) (line : LogEntry) (within : place ≤ length entries) where
  many : length (insert entries place line) ≡ length entries + 1
  many = length-insert entries place line within

  pub entry_below : (i : ℕ) (e : LogEntry) → i < place → e ≡ get_or entries i e → IsEntryAt (with_open place line entries) i e
  entry_below i e low here = (let n = many in omega arith, here ∙ sym (get_or-insert_below entries place line e i low within))

  pub entry_here : (i : ℕ) → i ≡ place → IsEntryAt (with_open place line entries) i line
  entry_here i is =
      (let n = many in omega arith, sym (ap (λ (k : ℕ). get_or (insert entries place line) k line) is ∙ get_or-insert_at entries place line line within))

  pub entry_above : (i : ℕ) (e : LogEntry) → place < i → i ≤ length entries → e ≡ get_or entries (i - 1) e → IsEntryAt (with_open place line entries) i e
  entry_above i e up most here =
      let back : i - 1 + 1 ≡ i = omega arith in (
        let n = many in omega arith,
        here ∙ sym (get_or-insert_above entries place line e (i - 1) (omega arith) within) ∙ ap (λ (k : ℕ). get_or (insert entries place line) k e) back,
      )

  pub all_of : (i : ℕ) → length entries + 1 ≤ i → take i (with_open place line entries) ≡ with_open place line entries
  all_of i past = take_all i (with_open place line entries) (let n = many in omega (arith, n, past))

later_if : (b c : Bool) (n : ℕ) (before : Option ℕ) → later_start (if b then Some n else before) c ≡ (if b then Some (n + 1) else later_start before c)
later_if true c n before = refl
later_if false c n before = refl

last_push : (task : ℕ) (entries : List LogEntry) (e : LogEntry)
    → last_start task (entries ++ e ∷ []) ≡ (if is_start task e then Some (length entries) else last_start task entries)
last_push task [] e = refl
last_push task (entry ∷ entries) e =
    ap (λ (s : Option ℕ). later_start s (is_start task entry)) (last_push task entries e)
    ∙ later_if (is_start task e) (is_start task entry) (length entries) (last_start task entries)
    ∙ ap (λ (n : ℕ). if is_start task e then Some n else last_start task (entry ∷ entries)) (let more : length entries + 1 ≡ length (entry ∷ entries) = omega arith in more)

greatest_push : (task : ℕ) (entries : List LogEntry) (e : LogEntry) → greatest_life task (entries ++ e ∷ []) ≡ max (greatest_life task entries) (begun_life task e)
greatest_push task [] e = omega arith
greatest_push task (entry ∷ entries) e = let more = greatest_push task entries e in omega (arith, more)

module _ (task : ℕ) (entries : List LogEntry) (i : ℕ) (e d : LogEntry) (low : i < length entries) (here : e ≡ get_or entries i d) where
  one_more : take (i + 1) entries ≡ take i entries ++ e ∷ []
  one_more = take_more entries i d low ∙ ap (λ (x : LogEntry). take i entries ++ x ∷ []) (sym here)

  last_more : last_start task (take (i + 1) entries) ≡ (if is_start task e then Some i else last_start task (take i entries))
  last_more =
      ap (last_start task) one_more ∙ last_push task (take i entries) e
      ∙ ap (λ (n : ℕ). if is_start task e then Some n else last_start task (take i entries)) (length-take-le i entries (omega (arith, low)))

  pub last_step : (here : Bool) (last next : Option ℕ) → here ≡ is_start task e → next ≡ (if here then Some i else last) → last ≡ last_start task (take i entries)
      → next ≡ last_start task (take (i + 1) entries)
  last_step here last next is steps so_far =
      steps ∙ ap (λ (l : Option ℕ). if here then Some i else l) so_far
      ∙ ap (λ (b : Bool). if b then Some i else last_start task (take i entries)) is ∙ sym last_more

  pub greatest_more : (greatest : ℕ) → greatest ≡ greatest_life task (take i entries) → max greatest (begun_life task e) ≡ greatest_life task (take (i + 1) entries)
  greatest_more greatest so_far =
      ap (λ (n : ℕ). max n (begun_life task e)) so_far ∙ sym (ap (greatest_life task) one_more ∙ greatest_push task (take i entries) e)

within_if : (here : Bool) (last : Option ℕ) (i : ℕ) → IfSome last (λ place. place < i) → IfSome (if here then Some i else last) (λ place. place < i + 1)
within_if true last i low = omega arith
within_if false None i low = tt
within_if false (Some place) i low = omega (arith, low)

pub within_step : (here : Bool) (last next : Option ℕ) (i : ℕ) → next ≡ (if here then Some i else last) → IfSome last (λ place. place < i)
    → IfSome next (λ place. place < i + 1)
within_step here last next i steps low = subst (λ (l : Option ℕ). IfSome l (λ place. place < i + 1)) (sym steps) (within_if here last i low)
