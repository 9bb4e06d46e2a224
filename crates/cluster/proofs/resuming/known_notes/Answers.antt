use Rattle.indexmap.specs.IndexSet.{contains}
use Rattle.cluster.specs.Made.{same_note}
use Rattle.cluster.proofs.Knowing.{same_note_turned}
use Rattle.cluster.proofs.Rebuilding.{known_more}
use Rattle.cluster.proofs.resuming.known_notes.Goals as goal

pub loop-note-preserved : goal.loop-note-preserved
loop-note-preserved c =
    known_more same_note same_note_turned c.args.notes.now c.loop-note.note-index c.note-item.result c.loop-note-test.true c.note-item.is
    (contains same_note c.loop-note.known) (contains same_note c.insert_reserved.new.known) c.loop-note.invariant
    (λ note. rw (c.new.ensures, c.in_ok-reserve.ensures.keys) at c.insert_reserved.ensures.members note)
