-- What `hourstable trace --logs` writes, and the status that it exits with.
use Rattle.std.specs.Prelude.{◌≡◌, ◌≢◌, ℕ, ◌<◌, Bool, false, List, decimal, Option, Some, None, option_map, Result, Ok, Err}
use Rattle.std.specs.Borrow.{Bor}
use Rattle.std.specs.Io.KnownBytes.{Keeps}
use Rattle.slice_ranges.specs.Hash.{slice_key}
use Rattle.slice_ranges.specs.declared.key.TheConstants.{KEYS}
use Rattle.program_io.specs.Streams.{ReadsAll}
use Rattle.program_io.specs.Endings.{IsCut, IsWritten}
use Rattle.cluster.specs.continued.Jobs.{Continued}
use Rattle.job_calls.specs.declared.snapshot.ClusterSnapshot.{ClusterSnapshot}
use Rattle.log_line.specs.Files.{IsLog, lines_from}
use Rattle.log_line.specs.declared.log.Log.{Log}
use Rattle.log_run.specs.Starts.{BeginsAt}
use Rattle.log_trace_text.specs.Traces.{IsLogTraceText, Wanted}
use Rattle.log_trace_text.specs.declared.traced.TracedLog.{TracedLog}
use Rattle.command.specs.declared.arguments.TraceFlags.{TraceFlags}
use Rattle.command.specs.declared.log_audit.AuditError.{AuditError}
use Rattle.command.specs.declared.log_audit.AuditError.TheVariants as audit
use Rattle.command.specs.Audits.{AreRead, IsDriftGiven, IsLogBytes, SayNoCalls, status_for, status_of}

-- a slice key as it is written
abbrev pub IsSliceKeyOrNone : List ℕ → Option ℕ → Type 0
IsSliceKeyOrNone words (Some key) = words ≡ decimal key
IsSliceKeyOrNone words None = (key : ℕ) → key < KEYS → words ≢ decimal key

-- the key whose stretches are wanted, by its text or by its number, or none is; logs that go on from a state have no stretches
abbrev pub IsKeyWanted : Bool → Option (Bor (List ℕ)) → Option (Bor (List ℕ)) → Option ℕ → Type 0
IsKeyWanted goes_on None None key = key ≡ None
IsKeyWanted false (Some text) None key = key ≡ Some (slice_key text.now)
IsKeyWanted false None (Some number) (Some key) = number.now ≡ decimal key
IsKeyWanted goes_on _ _ _ = ⊥

-- these flags ask for such a trace
pub record AsksForTrace (flags : TraceFlags) (wanted : Wanted) : Type 0 where
  pub key : wanted.key ≡ option_map (λ k. k.now) flags.key
  pub slice_key : IsKeyWanted flags.goes_on flags.key flags.slice_key wanted.slice_key
  pub calls : wanted.with_calls ≡ flags.with_calls
  pub drift : IsDriftGiven flags.drift wanted.drift

-- what is traced of a log that begins with its job, or goes on from this snapshot, whatever run that is one of
abbrev pub IsTraceOn : (log : Log) (earlier : Option ClusterSnapshot) (names : List (List ℕ)) → Wanted → TracedLog → Type 0
IsTraceOn log earlier names wanted traced = (job : Continued) → BeginsAt job log.job earlier → IsLogTraceText job log earlier names wanted traced

module _ (names : List (List ℕ)) (flags : TraceFlags) (before after : Option (List ℕ)) where
  -- the logs of these names were read, and this is their trace
  pub record AreTraced (traced : TracedLog) : Type 0 where
    pub wanted : Wanted
    pub given : AsksForTrace flags wanted
    pub files : List (List ℕ)
    pub earlier : Option ClusterSnapshot
    pub read : AreRead IsLogBytes flags.goes_on names before after files earlier
    pub log : Log
    pub says : IsLog (lines_from 0 files) log
    pub is : IsTraceOn log earlier names wanted traced

  -- the logs of these names were read to their ends, this is the trace of them all, and this is whether they are one run
  pub record IsTrace (one : Bool) (text : List ℕ) : Type 0 where
    pub wanted : Wanted
    pub given : AsksForTrace flags wanted
    pub files : List (List ℕ)
    pub earlier : Option ClusterSnapshot
    pub read : AreRead ReadsAll flags.goes_on names before after files earlier
    pub log : Log
    pub says : IsLog (lines_from 0 files) log
    pub traced : TracedLog
    pub is : IsTraceOn log earlier names wanted traced
    pub text_is : text ≡ traced.text.items
    pub one_is : one ≡ traced.is_one

  abbrev pub IsSomeTrace : List ℕ → Type 0
  IsSomeTrace text = (one : Bool) × IsTrace one text

module _ (names : List (List ℕ)) (flags : TraceFlags) (before after held holds : Option (List ℕ)) where
  -- it was written
  abbrev pub IsTracing : Bool → Type 0
  IsTracing one = IsWritten (IsTrace names flags before after one) held holds

  -- what was read and written where logs are not traced: they say no calls, for this reason, or a first part was written, or nothing
  abbrev pub IsUntraced : AuditError → Type 0
  IsUntraced (audit.Refused why) = SayNoCalls flags.goes_on names before after why × Keeps held holds
  IsUntraced audit.Write = IsCut (IsSomeTrace names flags before after) held holds
  IsUntraced _ = Keeps held holds

  -- what was read and written by a trace, and the status that it exits with
  abbrev pub HasTrace : Result Bool AuditError → ℕ → Type 0
  HasTrace (Ok one) code = IsTracing one × (code ≡ status_for one)
  HasTrace (Err why) code = IsUntraced why × (code ≡ status_of why)

  abbrev pub IsTraceEnd : ℕ → Type 0
  IsTraceEnd code = (answer : Result Bool AuditError) × HasTrace answer code
