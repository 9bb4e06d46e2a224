use Rattle.std.proofs.Common.{◌≡◌, take}
use Rattle.std.specs.List.{list_any}
use Rattle.indexmap.specs.IndexSet.{contains}
use Rattle.grants.specs.declared.values.ReleaseNote.{ReleaseNote}
use Rattle.cluster.specs.Made.{same_note}
use Rattle.cluster.proofs.resuming.known_notes.Given as goal

-- the notes so far are known
abbrev pub invariant-loop-note : goal.invariant-loop-note
invariant-loop-note l = (note : ReleaseNote) → contains same_note l.known note ≡ list_any (same_note note) (take l.note-index l.notes)
