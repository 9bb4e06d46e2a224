-- Logs that are audited day by day are one run.
use Rattle.std.proofs.Common.{◌≡◌, ◌∙◌, List, [], ◌∷◌, ◌++◌, reverse, sym, subst}
use Rattle.std.proofs.lemmas.List.{reverse-append}
use Rattle.job_calls.specs.Jobs.{Job}
use Rattle.cluster.specs.Pasts.{Past}
use Rattle.cluster.specs.Runs.{IsRun}
use Rattle.cluster.specs.continued.Jobs.{from_start}
use Rattle.cluster.specs.continued.Runs as continued
use Rattle.cluster.specs.continued.Snapshots.{Remembered, IsAllSent, continued_from}
use Rattle.log_line.specs.declared.entry.LogEntry.{LogEntry}
use Rattle.log_run.specs.OneRun.{IsPastOf}
use Rattle.log_run.specs.Days.{AreRunTo, GoOnTo}

-- entries that go on from others, newest first
told_on : (own : Job) (r : Remembered) (past : Past) (before later : List LogEntry) (after : Past) → IsPastOf (from_start own) before past
    → IsPastOf (continued_from own past r) later after → IsPastOf (from_start own) (later ++ before) after
told_on own r past before [] after told is = subst (λ (p : Past). IsPastOf (from_start own) before p) (sym is) told
told_on own r past before (entry ∷ later) after told is = (is.0, is.1, is.2, is.3, told_on own r past before later is.0 told is.4)

pub days : (whole : (job : Job) (past later : Past) (remembered : Remembered) → IsRun job past → continued.IsRun (continued_from job past remembered) (later ++ past) → IsAllSent later
    → IsRun job (later ++ past)) → (own : Job) (r : Remembered) (before later : List LogEntry) (past after : Past) → AreRunTo own before past
    → GoOnTo (continued_from own past r) later after → AreRunTo own (before ++ later) after
days whole own r before later past after first second = record {
  told = subst (λ (es : List LogEntry). IsPastOf (from_start own) es after) (sym (reverse-append before later))
      (told_on own r past (reverse before) (reverse later) after first.told second.told);
  answered = subst (λ (p : Past). IsRun own p) (sym second.sent.whole)
      (whole own past second.sent.since r first.answered (subst (λ (p : Past). continued.IsRun (continued_from own past r) p) second.sent.whole second.answered) second.sent.sent);
}
