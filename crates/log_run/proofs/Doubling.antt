-- Two entries of one ticket.
use Rattle.std.proofs.Common.{◌≡◌, ◌≢◌, ℕ, ◌+◌, ◌-◌, ◌<◌, ◌≤◌, List, length, get_or, refl, sym, subst, ap, ◌∙◌, arith}
use Rattle.std.specs.Prelude.{slice_get}
use Rattle.std.specs.List.{AllAdjacentBelow}
use Rattle.std.specs.List.Sorted.{IsNonDecreasingBy}
use Rattle.std.proofs.lemmas.List.{get_or_default}
use Rattle.std.proofs.lemmas.List.Sorted.{all_adjacent_more}
use Rattle.log_line.specs.declared.entry.LogEntry.{LogEntry}
use Rattle.log_run.specs.OneRun.{IsDouble}
use Rattle.log_run.proofs.Places.{at_place}

pub double_here : (entries : List LogEntry) (i : ℕ) (first second : LogEntry) → 1 ≤ i → i < length entries → first ≡ get_or entries (i - 1) first → second ≡ get_or entries i second
    → second.line.ticket ≡ first.line.ticket → AllAdjacentBelow (λ (x : LogEntry) (y : LogEntry). x.line.ticket < y.line.ticket) entries i → IsDouble entries (i - 1) (i - 1 + 1)
double_here entries i first second one low before here same rising =
    let next : i - 1 + 1 ≡ i = omega arith in
    record {
      next = refl;
      entry = first;
      other = second;
      here = at_place entries (i - 1) first (omega arith) before;
      there = ap (slice_get entries) next ∙ at_place entries i second low here;
      same = same;
      earliest = subst (λ (n : ℕ). AllAdjacentBelow (λ (x : LogEntry) (y : LogEntry). x.line.ticket < y.line.ticket) entries n) (sym next) rising;
    }

-- neighbours, whatever stands where there is none
module _ (entries : List LogEntry) (i : ℕ) (d e : LogEntry) (one : 1 ≤ i) (low : i < length entries) where
  before : get_or entries (i - 1) d ≡ get_or entries (i - 1) (get_or entries (i - 1) d)
  before = get_or_default entries (i - 1) d (get_or entries (i - 1) d) (omega arith)

  here : get_or entries i e ≡ get_or entries i (get_or entries i e)
  here = get_or_default entries i e (get_or entries i e) low

  first : (z : LogEntry) → (get_or entries (i - 1) z).line.ticket ≡ (get_or entries (i - 1) d).line.ticket
  first z = ap (λ (x : LogEntry). x.line.ticket) (get_or_default entries (i - 1) z d (omega arith))

  second : (z : LogEntry) → (get_or entries i z).line.ticket ≡ (get_or entries i e).line.ticket
  second z = ap (λ (x : LogEntry). x.line.ticket) (get_or_default entries i z e low)

  after : (z : LogEntry) → (get_or entries (i - 1 + 1) z).line.ticket ≡ (get_or entries i e).line.ticket
  after z = ap (λ (j : ℕ). (get_or entries j z).line.ticket) (omega arith) ∙ second z

  pub double_at : AllAdjacentBelow (λ (x : LogEntry) (y : LogEntry). x.line.ticket < y.line.ticket) entries i
      → (get_or entries i e).line.ticket ≡ (get_or entries (i - 1) d).line.ticket → IsDouble entries (i - 1) (i - 1 + 1) × (i - 1 + 1 < length entries)
  double_at rising same = (double_here entries i (get_or entries (i - 1) d) (get_or entries i e) one low before here same rising, omega arith)

  pub rises_at : IsNonDecreasingBy (λ (x : LogEntry). x.line.ticket) entries → AllAdjacentBelow (λ (x : LogEntry) (y : LogEntry). x.line.ticket < y.line.ticket) entries i
      → (get_or entries i e).line.ticket ≢ (get_or entries (i - 1) d).line.ticket → AllAdjacentBelow (λ (x : LogEntry) (y : LogEntry). x.line.ticket < y.line.ticket) entries (i + 1)
  rises_at up so_far other =
      all_adjacent_more entries (λ (x : LogEntry) (y : LogEntry). x.line.ticket < y.line.ticket) i one so_far
      (λ z. let a = first z in let b = second z in let c = after z in let h = up (i - 1) i z (omega arith) low in let f = first d in omega (arith, a, b, c, f, h, other))
