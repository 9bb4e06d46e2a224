-- Logs that are read one after another.
use Rattle.std.proofs.Common.{Bool, true, false, ℕ, ◌+◌, ◌<◌, ◌≤◌, List, [], ◌∷◌, ◌++◌, map, length, take, get_or, Option, Some, None, inl, inr, refl, string_bytes, sym, subst, append_assoc}
use Rattle.std.proofs.lemmas.List.{append-nil, map-append, take_all, take_more}
use Rattle.std.specs.Prelude.{◌≡◌, ◌≢◌, codes}
use Rattle.std.specs.Io.KnownBytes.{Appends, Consumes, IsAtEnd}
use Rattle.program_io.proofs.Bytes.{consumes_more, consumes_none}
use Rattle.program_io.specs.declared.line.TheConstants.{MOST_LINE_BYTES}
use Rattle.program_io.specs.Endings.{IsCut}
use Rattle.program_io.specs.Streams.{ReadsAll}
use Rattle.job_calls.specs.declared.snapshot.ClusterSnapshot.{ClusterSnapshot}
use Rattle.audit_text.specs.declared.auditing.LogReport.{LogReport}
use Rattle.log_trace_text.specs.declared.traced.TracedLog.{TracedLog}
use Rattle.log_line.specs.declared.log_reader.LogReader.{LogReader}
use Rattle.log_line.specs.declared.log_reader.ReadLog.{ReadLog}
use Rattle.log_line.specs.Readers.{IsReading}
use Rattle.log_line.specs.Files.{PlacedLine, AreShort, numbered, lines_in, lines_from}
use Rattle.command.specs.declared.arguments.AuditFlags.{AuditFlags}
use Rattle.command.specs.declared.arguments.TraceFlags.{TraceFlags}
use Rattle.command.specs.declared.log_audit.AuditError.{AuditError}
use Rattle.command.specs.declared.log_audit.AuditError.TheVariants as audit
use Rattle.command.specs.Audits.{AreJudged, AreLogsRead, AreLogsTaken, AreNotJudged, AreOpened, AreRead, EndsInLine, IsJudged, IsLogBytes, IsLogRead, IsLogTaken, IsNotAudited, IsOneMore, IsReport, IsSomeReport, IsStateRead, passes}
use Rattle.command.specs.internals.{AreLogsAfter, AreNotAfter}
use Rattle.command.specs.Traces.{AreTraced, IsSomeTrace, IsTrace, IsTracing}
use Rattle.command.proofs.Runs.{never_cut, nothing_yet}

-- ONE LOG

-- what was read of a log so far, which ends in this many bytes of a line
pub record IsTakenSoFar (files : List (List ℕ)) (before after : Option (List ℕ)) (run : ℕ) (log : LogReader) : Type 0 where
  pub bytes : List ℕ
  pub gave : Consumes before after bytes
  pub line : EndsInLine bytes run
  pub reading : IsReading files bytes log

pub nothing_taken : (files : List (List ℕ)) (before : Option (List ℕ)) (log : LogReader) → IsReading files [] log → IsTakenSoFar files before before 0 log
nothing_taken files before log reading = record { bytes = []; gave = consumes_none before; line = nothing_yet; reading = reading }

module _ (files : List (List ℕ)) where
  pub taken_more : (before between after : Option (List ℕ)) (piece : List ℕ) (run next : ℕ) (log more : LogReader) → IsTakenSoFar files before between run log
      → Consumes between after piece → ((bytes : List ℕ) → EndsInLine bytes run → EndsInLine (bytes ++ piece) next)
      → ((bytes : List ℕ) → IsReading files bytes log → IsReading files (bytes ++ piece) more) → IsTakenSoFar files before after next more
  taken_more before between after piece run next log more so_far gave line read = record {
    bytes = so_far.bytes ++ piece;
    gave = consumes_more before between after so_far.bytes piece so_far.gave gave;
    line = line so_far.bytes so_far.line;
    reading = read so_far.bytes so_far.reading;
  }

  pub cut_here : (before after : Option (List ℕ)) (run : ℕ) (log : LogReader) → MOST_LINE_BYTES + 1 < run → IsTakenSoFar files before after run log
      → IsLogTaken files before after log
  cut_here before after run log long so_far =
      (so_far.bytes, inr (record { gave = so_far.gave; many = run; line = so_far.line; long = long }), so_far.reading)

  pub nothing_more : (before between after : Option (List ℕ)) (piece : List ℕ) (n run : ℕ) (log : LogReader) → n ≡ 0 → Consumes between after (take n piece)
      → IsTakenSoFar files before between run log → IsTakenSoFar files before after run log
  nothing_more before between after piece n run log none gave so_far = record {
    bytes = so_far.bytes;
    gave = subst (Consumes before after) (append-nil so_far.bytes) (consumes_more before between after so_far.bytes [] so_far.gave (rw none at gave));
    line = so_far.line;
    reading = so_far.reading;
  }

  pub ended_here : (before after : Option (List ℕ)) (run : ℕ) (log : LogReader) → IsAtEnd after → IsTakenSoFar files before after run log → IsLogTaken files before after log
  ended_here before after run log ended so_far = (so_far.bytes, inl (record { gave = so_far.gave; ended = ended }), so_far.reading)

-- the log of a name is what the input had left, or a file
pub from_input : (files : List (List ℕ)) (name : List ℕ) (before after : Option (List ℕ)) (log : LogReader) → name ≡ codes "-"
    → IsOneMore IsLogBytes files before after log → IsOneMore (IsLogRead IsLogBytes name) files before after log
from_input files name before after log dash one = (one.0, record { input = λ is. one.1; other = λ differs. absurd (differs dash) }, one.2)

pub from_file : (files : List (List ℕ)) (name : List ℕ) (input before after : Option (List ℕ)) (log : LogReader) → name ≢ codes "-"
    → IsOneMore IsLogBytes files before after log → IsOneMore (IsLogRead IsLogBytes name) files input input log
from_file files name input before after log other one = (one.0, record { input = λ dash. absurd (other dash); other = λ differs. refl }, one.2)

-- SEVERAL LOGS

-- a further log is read after these
read_last : (names : List (List ℕ)) (name : List ℕ) (before between after : Option (List ℕ)) (files : List (List ℕ)) (bytes : List ℕ)
    → AreLogsRead IsLogBytes names before between files → IsLogRead IsLogBytes name between after bytes → AreLogsRead IsLogBytes (names ++ name ∷ []) before after (files ++ bytes ∷ [])
read_last [] name before between after [] bytes same read = (after, subst (λ (held : Option (List ℕ)). IsLogRead IsLogBytes name held after bytes) same read, refl)
read_last [] name before between after (file ∷ files) bytes reads read = absurd reads
read_last (first ∷ names) name before between after [] bytes reads read = absurd reads
read_last (first ∷ names) name before between after (file ∷ files) bytes reads read =
    (reads.0, reads.1, read_last names name reads.0 between after files bytes reads.2 read)

pub no_logs : (front : List (List ℕ)) (before : Option (List ℕ)) (log : LogReader) → IsReading front [] log → AreLogsTaken front [] before before log
no_logs front before log reading = record { files = []; read = refl; reading = subst (λ (fs : List (List ℕ)). IsReading fs [] log) (sym (append-nil front)) reading }

pub one_more : {N : Type 0} (now : N → List ℕ) (names : List N) (i : ℕ) (d : N) (front : List (List ℕ)) (before between after : Option (List ℕ)) (log more : LogReader)
    → i < length names → AreLogsTaken front (map now (take i names)) before between log
    → ((files : List (List ℕ)) → IsReading files [] log → IsOneMore (IsLogRead IsLogBytes (now (get_or names i d))) files between after more)
    → AreLogsTaken front (map now (take (i + 1) names)) before after more
one_more now names i d front before between after log more within so_far next =
    let read = next (front ++ so_far.files) so_far.reading in
    rw (take_more names i d within, map-append now (take i names) (get_or names i d ∷ [])) (record {
      files = so_far.files ++ read.0 ∷ [];
      read = read_last (map now (take i names)) (now (get_or names i d)) before between after so_far.files read.0 so_far.read read.1;
      reading = subst (λ (fs : List (List ℕ)). IsReading fs [] more) (append_assoc front so_far.files (read.0 ∷ [])) read.2;
    })

pub no_more : {N : Type 0} (now : N → List ℕ) (names : List N) (i : ℕ) (front : List (List ℕ)) (before after : Option (List ℕ)) (log : LogReader) → length names ≤ i
    → AreLogsTaken front (map now (take i names)) before after log → AreLogsTaken front (map now names) before after log
no_more now names i front before after log all taken = subst (λ ns. AreLogsTaken front (map now ns) before after log) (take_all i names all) taken

-- why logs are not judged that were read
pub not_judged : (names : List (List ℕ)) (before after : Option (List ℕ)) (log : LogReader) (taken : AreLogsTaken [] names before after log) (error : AuditError)
    → IsNotAudited taken.files error → AreNotJudged false names before after error
not_judged names before after log taken (audit.Refused why) unread = record { files = taken.files; earlier = None; read = (refl, taken.read); unread = unread }
not_judged names before after log taken audit.Memory none = tt
not_judged names before after log taken (audit.BadState name why) is = absurd is
not_judged names before after log taken (audit.OtherState name fault) is = absurd is
not_judged names before after log taken (audit.Unopened name error) is = absurd is
not_judged names before after log taken (audit.Read name) is = absurd is
not_judged names before after log taken (audit.Unsaved name error) is = absurd is
not_judged names before after log taken (audit.NoDrift words) is = absurd is
not_judged names before after log taken (audit.NoKey option words fault) is = absurd is
not_judged names before after log taken audit.Write is = absurd is

-- why logs that go on from a state are not judged
pub not_after : (line : List ℕ) (names : List (List ℕ)) (before after : Option (List ℕ)) (log : LogReader) (taken : AreLogsTaken (line ∷ []) names before after log) (error : AuditError)
    → IsNotAudited (line ∷ taken.files) error → AreNotAfter line names before after error
not_after line names before after log taken (audit.Refused why) unread = record { files = taken.files; read = taken.read; unread = unread }
not_after line names before after log taken audit.Memory none = tt
not_after line names before after log taken (audit.BadState name why) is = absurd is
not_after line names before after log taken (audit.OtherState name fault) is = absurd is
not_after line names before after log taken (audit.Unopened name error) is = absurd is
not_after line names before after log taken (audit.Read name) is = absurd is
not_after line names before after log taken (audit.Unsaved name error) is = absurd is
not_after line names before after log taken (audit.NoDrift words) is = absurd is
not_after line names before after log taken (audit.NoKey option words fault) is = absurd is
not_after line names before after log taken audit.Write is = absurd is

-- a state and the logs that go on from it
module _ (state : List ℕ) (names : List (List ℕ)) (before between after : Option (List ℕ)) (line : List ℕ) (s : ClusterSnapshot) (begins : IsStateRead state before between line s) where
  pub opened_on : (read : ReadLog) → AreLogsAfter line names between after read → AreOpened true (state ∷ names) before after (record { read = read; earlier = Some s })
  opened_on read are = record {
    files = line ∷ are.files;
    read = record { between = between; line = line; snapshot = s; others = are.files; begins = begins; is = refl; all = refl; read = are.read };
    log = are.log;
  }

  pub not_opened_on : (error : AuditError) → AreNotAfter line names between after error → AreNotJudged true (state ∷ names) before after error
  not_opened_on (audit.Refused why) is = record {
    files = line ∷ is.files;
    earlier = Some s;
    read = record { between = between; line = line; snapshot = s; others = is.files; begins = begins; is = refl; all = refl; read = is.read };
    unread = is.unread;
  }
  not_opened_on audit.Memory is = tt
  not_opened_on (audit.BadState name why) is = tt
  not_opened_on (audit.OtherState name fault) is = tt
  not_opened_on (audit.Unopened name error) is = tt
  not_opened_on (audit.Read name) is = tt
  not_opened_on (audit.Unsaved name error) is = tt
  not_opened_on (audit.NoDrift words) is = tt
  not_opened_on (audit.NoKey option words fault) is = tt
  not_opened_on audit.Write is = absurd is

-- logs whose lines are short were read to their ends
short_front : (xs ys : List PlacedLine) → AreShort (xs ++ ys) → AreShort xs
short_front [] ys short = tt
short_front (x ∷ xs) ys short = (short.0, short_front xs ys short.1)

short_back : (xs ys : List PlacedLine) → AreShort (xs ++ ys) → AreShort ys
short_back [] ys short = short
short_back (x ∷ xs) ys short = short_back xs ys short.1

to_its_end : (name : List ℕ) (file : ℕ) (before after : Option (List ℕ)) (bytes : List ℕ) → AreShort (numbered file 1 (lines_in bytes))
    → IsLogRead IsLogBytes name before after bytes → IsLogRead ReadsAll name before after bytes
to_its_end name file before after bytes short read = record { input = λ dash. by_part (read.input dash); other = read.other }
  where
    by_part : IsLogBytes before after bytes → ReadsAll before after bytes
    by_part (inl all) = all
    by_part (inr cut) = absurd (never_cut file 1 bytes cut.many short cut.line cut.long)

pub to_their_ends : (names : List (List ℕ)) (file : ℕ) (before after : Option (List ℕ)) (files : List (List ℕ)) → AreShort (lines_from file files)
    → AreLogsRead IsLogBytes names before after files → AreLogsRead ReadsAll names before after files
to_their_ends [] file before after [] short read = read
to_their_ends [] file before after (bytes ∷ files) short read = absurd read
to_their_ends (name ∷ names) file before after [] short read = absurd read
to_their_ends (name ∷ names) file before after (bytes ∷ files) short read =
    let lines = numbered file 1 (lines_in bytes) in
    let rest = lines_from (file + 1) files in
    (read.0, to_its_end name file before read.0 bytes (short_front lines rest short) read.1, to_their_ends names (file + 1) read.0 after files (short_back lines rest short) read.2)

-- the same where the first is a state
pub all_to_their_ends : (goes_on : Bool) (names : List (List ℕ)) (before after : Option (List ℕ)) (files : List (List ℕ)) (earlier : Option ClusterSnapshot)
    → AreShort (lines_from 0 files) → AreRead IsLogBytes goes_on names before after files earlier → AreRead ReadsAll goes_on names before after files earlier
all_to_their_ends false names before after files earlier short read = (read.0, to_their_ends names 0 before after files short read.1)
all_to_their_ends true [] before after files earlier short read = (read.0, to_their_ends [] 0 before after files short read.1)
all_to_their_ends true (state ∷ names) before after files earlier short read =
    let rest = lines_from 1 read.others in
    let all : AreShort (numbered 0 1 (lines_in read.line) ++ rest) = subst (λ (fs : List (List ℕ)). AreShort (lines_from 0 fs)) read.all short in
    record {
      between = read.between;
      line = read.line;
      snapshot = read.snapshot;
      others = read.others;
      begins = read.begins;
      is = read.is;
      all = read.all;
      read = to_their_ends names 1 read.between after read.others (short_back (numbered 0 1 (lines_in read.line)) rest all) read.read;
    }

-- logs that are judged were read to their ends, and their report is written, or a first part of it
module _ (names : List (List ℕ)) (flags : AuditFlags) (before after held holds : Option (List ℕ)) (report : LogReport) (told : List ℕ) (is : told ≡ string_bytes report.text)
    (judged : AreJudged names flags before after report) where
  whole : AreRead ReadsAll flags.goes_on names before after judged.files judged.earlier
  whole = all_to_their_ends flags.goes_on names before after judged.files judged.earlier judged.says.short judged.read

  abbrev verdict : Bool
  verdict = passes flags.strict report

  reported : (passed : Bool) → passed ≡ verdict → IsReport names flags before after passed (string_bytes report.text)
  reported passed is_verdict = record {
    files = judged.files;
    earlier = judged.earlier;
    read = whole;
    options = judged.options;
    given = judged.given;
    log = judged.log;
    says = judged.says;
    report = report;
    audited = judged.audited;
    text_is = refl;
    verdict = is_verdict;
  }

  pub report_written : (passed : Bool) → passed ≡ verdict → Appends held holds told → IsJudged names flags before after held holds passed
  report_written passed is_verdict written = record { text = string_bytes report.text; is = reported passed is_verdict; wrote = subst (Appends held holds) is written }

  pub report_cut : (len : ℕ) → Appends held holds (take len told) → IsCut (IsSomeReport names flags before after) held holds
  report_cut len written = record {
    text = string_bytes report.text;
    is = (verdict, reported verdict refl);
    len = len;
    wrote = subst (λ (t : List ℕ). Appends held holds (take len t)) is written;
  }

-- logs that are traced were read to their ends, and their trace is written, or a first part of it
module _ (names : List (List ℕ)) (flags : TraceFlags) (before after held holds : Option (List ℕ)) (traced : TracedLog) (text : List ℕ) (is : text ≡ traced.text.items)
    (known : AreTraced names flags before after traced) where
  is_trace : IsTrace names flags before after traced.is_one text
  is_trace = record {
    wanted = known.wanted;
    given = known.given;
    files = known.files;
    earlier = known.earlier;
    read = all_to_their_ends flags.goes_on names before after known.files known.earlier known.says.short known.read;
    log = known.log;
    says = known.says;
    traced = traced;
    is = known.is;
    text_is = is;
    one_is = refl;
  }

  pub trace_written : Appends held holds text → IsTracing names flags before after held holds traced.is_one
  trace_written written = record { text = text; is = is_trace; wrote = written }

  pub trace_cut : (len : ℕ) → Appends held holds (take len text) → IsCut (IsSomeTrace names flags before after) held holds
  trace_cut len written = record { text = text; is = (traced.is_one, is_trace); len = len; wrote = written }
