-- Entries that send one of some things.
use Rattle.std.specs.Prelude.{Bool, true, false}
use Rattle.log_line.specs.declared.entry.LogEntry.{LogEntry}
use Rattle.log_line.specs.declared.sent.Sent.{Sent}
use Rattle.log_line.specs.declared.sent.Sent.TheVariants as sent
use Rattle.log_line.specs.Sent.{hides_handle, sends_commit, sends_grant, sends_handle, sends_note}

abbrev pub sends : Sent → LogEntry → Bool
sends (sent.Grant g) e = sends_grant g e
sends (sent.Commit generation) e = sends_commit generation e
sends (sent.Note n) e = sends_note n e
sends (sent.Handle h) e = sends_handle false h e
sends (sent.OtherHandle h) e = sends_handle true h e
sends (sent.HiddenHandle h) e = hides_handle h e
