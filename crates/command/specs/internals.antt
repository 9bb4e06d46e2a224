-- How logs that go on from a state are read.
use Rattle.std.specs.Prelude.{ℕ, ⊤, List, ◌∷◌, Option}
use Rattle.job_calls.specs.declared.snapshot.ClusterSnapshot.{ClusterSnapshot}
use Rattle.program_io.specs.Streams.{ReadsAll}
use Rattle.log_line.specs.Files.{IsUnread, lines_from}
use Rattle.log_line.specs.Readers.{IsReadLog}
use Rattle.log_line.specs.declared.log.LogError.{LogError}
use Rattle.log_line.specs.declared.log_reader.ReadLog.{ReadLog}
use Rattle.command.specs.declared.log_audit.AuditError.{AuditError}
use Rattle.command.specs.declared.log_audit.AuditError.TheVariants as audit
use Rattle.command.specs.Audits.{AreLogsRead, IsLogBytes, IsState}

-- a reader gave a state to its end
abbrev pub IsStateFrom : (before after : Option (List ℕ)) → (line : List ℕ) → ClusterSnapshot → Type 0
IsStateFrom before after line s = (bytes : List ℕ) × ReadsAll before after bytes × IsState bytes line s

-- the logs of these names were read after a file of this one line, and this is their log
pub record AreLogsAfter (line : List ℕ) (names : List (List ℕ)) (before after : Option (List ℕ)) (read_log : ReadLog) : Type 0 where
  pub files : List (List ℕ)
  pub read : AreLogsRead IsLogBytes names before after files
  pub log : IsReadLog (lines_from 0 (line ∷ files)) read_log

-- or they say no calls, for this reason
pub record SayNoneAfter (line : List ℕ) (names : List (List ℕ)) (before after : Option (List ℕ)) (why : LogError) : Type 0 where
  pub files : List (List ℕ)
  pub read : AreLogsRead IsLogBytes names before after files
  pub unread : IsUnread (lines_from 0 (line ∷ files)) why

-- or nothing is known of them
abbrev pub AreNotAfter : List ℕ → List (List ℕ) → (before after : Option (List ℕ)) → AuditError → Type 0
AreNotAfter line names before after (audit.Refused why) = SayNoneAfter line names before after why
AreNotAfter line names before after audit.Write = ⊥
AreNotAfter line names before after _ = ⊤
