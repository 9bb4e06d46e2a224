-- The entry at a place.
use Rattle.std.proofs.Common.{◌≡◌, ℕ, ◌<◌, List, length, get_or, sym, ap, ◌∙◌}
use Rattle.std.specs.Prelude.{Some, slice_get}
use Rattle.std.proofs.lemmas.Option.{slice_get-get_or}
use Rattle.log_line.specs.declared.entry.LogEntry.{LogEntry}

pub at_place : (entries : List LogEntry) (i : ℕ) (entry : LogEntry) → i < length entries → entry ≡ get_or entries i entry → slice_get entries i ≡ Some entry
at_place entries i entry low here = slice_get-get_or entries i entry low ∙ ap (λ (e : LogEntry). Some e) (sym here)
