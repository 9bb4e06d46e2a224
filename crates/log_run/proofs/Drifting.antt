-- Samples that are taken in one after another.
use Rattle.std.proofs.Common.{◌≡◌, ℕ, ◌<◌, List, length, get_or, take, reverse, sym, ◌∙◌, ap}
use Rattle.std.specs.Prelude.{Some}
use Rattle.std.proofs.lemmas.Option.{slice_get-get_or}
use Rattle.clocks.specs.declared.drift.Drift.{Drift}
use Rattle.log_run.specs.declared.drift.DriftFault.{DriftFault}
use Rattle.log_line.specs.declared.entry.LogEntry.{LogEntry}
use Rattle.log_run.specs.internals.Clocks.{IsFaultOf}
use Rattle.log_run.specs.Drifts.{AreWithinDrift, IsDriftFault}

-- an entry takes a wrong sample
pub wrong_here : (entries : List LogEntry) (i : ℕ) (entry : LogEntry) → i < length entries → entry ≡ get_or entries i entry → (drift : Drift) (fault : DriftFault)
    → AreWithinDrift drift (reverse (take i entries)) → IsFaultOf drift (reverse (take i entries)) entry.line.call i (Some fault) → IsDriftFault drift entries fault
wrong_here entries i entry low here drift fault within found =
    let is : i ≡ fault.index = sym found.0 in
    record {
      entry = entry;
      here = rw (← is) (slice_get-get_or entries i entry low ∙ ap (λ (e : LogEntry). Some e) (sym here));
      takes = found.1;
      wrong = rw (← is) found.2;
      first = rw (← is) within;
    }
