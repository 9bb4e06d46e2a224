use Rattle.std.proofs.Common.{List, ap, subst, take}
use Rattle.std.specs.Prelude.{Some, None}
use Rattle.grants.specs.declared.values.ReleaseNote.{ReleaseNote}
use Rattle.log_causes.specs.declared.cause.Change.TheVariants as change
use Rattle.log_line.specs.declared.entry.LogEntry.{LogEntry}
use Rattle.log_line.specs.Sent.{IsFirstFrom, sends_note}
use Rattle.log_causes.proofs.causes.note_cause.Goals as goal

pub returns-in-Some-2 : goal.returns-in-Some-2
returns-in-Some-2 c =
    let before : List LogEntry = take c.args.index c.args.entries.now in
    let found : IsFirstFrom (sends_note c.of_other_kind.result) before 0 (Some c.in-Some-2.place) = rw c.in-Some-2.is at c.in_ok-place-2.ensures in (
      rw c.in_default.is at c.in_ok-place.ensures,
      subst (λ (n : ReleaseNote). IsFirstFrom (sends_note n) before 0 (Some c.in-Some-2.place)) c.of_other_kind.ensures found,
      ap (change.Kind c.args.note.now.kind) c.other_kind-there.ensures,
    )

pub returns-in-None : goal.returns-in-None
returns-in-None c =
    let before : List LogEntry = take c.args.index c.args.entries.now in
    let found : IsFirstFrom (sends_note c.of_other_kind.result) before 0 None = rw c.in-None.is at c.in_ok-place-2.ensures in (
      rw c.in_default.is at c.in_ok-place.ensures,
      subst (λ (n : ReleaseNote). IsFirstFrom (sends_note n) before 0 None) c.of_other_kind.ensures found,
    )
