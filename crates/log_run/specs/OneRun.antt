-- Whether the calls of a log are one run of a job's machines, and else where they are not.
use Rattle.std.specs.Prelude.{◌≡◌, ℕ, ◌+◌, ◌<◌, true, false, List, [], ◌∷◌, length, reverse, take, Option, Some, None, slice_get}
use Rattle.std.specs.List.{AllAdjacentBelow}
use Rattle.cluster.specs.continued.Jobs.{Continued, job_in}
use Rattle.cluster.specs.Pasts.{Past, readings}
use Rattle.cluster.specs.Timing.{IsTimely, greatest_reading}
use Rattle.cluster.specs.continued.Runs.{IsRun}
use Rattle.log_line.specs.declared.told.CallerReply.{CallerReply}
use Rattle.log_line.specs.declared.entry.LogEntry.{LogEntry}
use Rattle.log_line.specs.Told.{is_worded}
use Rattle.log_run.specs.declared.late.Late.{Late}
use Rattle.log_run.specs.declared.held.HeldLeases.{HeldLeases}
use Rattle.log_run.specs.Calls.{held_by_asked}
use Rattle.log_run.specs.Late.{IsLate}
use Rattle.log_run.specs.Played.{StandsFor}

-- the calls of a past are those before, and then those that these entries stand for, both newest first, and each caller was told so, in the words
-- of its line
abbrev pub IsPastOf : Continued → List LogEntry → Past → Type 0
IsPastOf job [] past = past ≡ job.earlier
IsPastOf job (entry ∷ entries) past =
    (before : Past) × (told : CallerReply) × StandsFor (job_in job) before entry.line.call told past × (is_worded entry.line.reply told ≡ true)
    × IsPastOf job entries before

-- the tickets of entries rise, so that none stands twice
abbrev pub TicketsRise : List LogEntry → Type 0
TicketsRise entries = AllAdjacentBelow (λ x y. x.line.ticket < y.line.ticket) entries (length entries)

-- the clocks were timely in a run of these entries if they were in the calls before, or this reading is the first that is not
abbrev pub Tells : Continued → List LogEntry → Past → Option Late → Type 0
Tells job entries past None = IsTimely job.policy.skew (readings job.earlier) → IsTimely job.policy.skew (readings past)
Tells job entries past (Some late) = IsLate job.policy.skew (greatest_reading (readings job.earlier)) entries late

-- the entries are one run of the machines: there are replies with their words, one for each entry; so many, with timely clocks or not
pub record IsOneRun (job : Continued) (entries : List LogEntry) (steps : ℕ) (late : Option Late) : Type 0 where
  pub past : Past
  pub told : IsPastOf job (reverse entries) past
  pub answered : IsRun job past
  pub count : steps ≡ length entries
  pub clocks : Tells job entries past late

-- the entries before this place are a run, the caller of its call should have been told this and was told something else, and these are
-- the leases of the task that it asked for a key
pub record IsBreak (job : Continued) (entries : List LogEntry) (index : ℕ) (wanted : CallerReply) (held : Option HeldLeases) : Type 0 where
  pub entry : LogEntry
  pub here : slice_get entries index ≡ Some entry
  pub past : Past
  pub told : IsPastOf job (reverse (take index entries)) past
  pub after : Past
  pub stands : StandsFor (job_in job) past entry.line.call wanted after
  pub answered : IsRun job after
  pub other : is_worded entry.line.reply wanted ≡ false
  pub leases : held ≡ held_by_asked (job_in job) after entry.line.call

-- the entries at these places, one after the other, have one ticket, and the tickets before them rise
pub record IsDouble (entries : List LogEntry) (first second : ℕ) : Type 0 where
  pub next : second ≡ first + 1
  pub entry : LogEntry
  pub other : LogEntry
  pub here : slice_get entries first ≡ Some entry
  pub there : slice_get entries second ≡ Some other
  pub same : other.line.ticket ≡ entry.line.ticket
  pub earliest : AllAdjacentBelow (λ x y. x.line.ticket < y.line.ticket) entries second
