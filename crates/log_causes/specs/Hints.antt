-- Which lines a log lacks: where a process of a task began and no line says so, and where the table gave grants that no line tells.
use Rattle.std.specs.Prelude.{◌≡◌, ◌⊎◌, ℕ, ◌<◌, ◌≤◌, ◌+◌, ◌-◌, ◌^◌, ◌==◌, nat_eq, nat_lt, max, Bool, true, false, List, [], ◌∷◌, ◌++◌, codes, decimal, reverse, take, insert, Option, Some, None, option_and_then, slice_get, if◌then◌else◌}
use Rattle.std.specs.List.{starts_with}
use Rattle.grants.specs.declared.table_call.TableCall.TheVariants as table_call
use Rattle.grants.specs.declared.slicelet_call.SliceletCall.TheVariants as task_call
use Rattle.cluster.specs.continued.Jobs.{Continued}
use Rattle.job_calls.specs.declared.call.ClusterCall.TheVariants as call
use Rattle.cluster.specs.Pasts.{Past}
use Rattle.cluster.specs.continued.Runs.{IsRun}
use Rattle.log_line.specs.declared.entry.LogEntry.{LogEntry}
use Rattle.log_causes.specs.declared.finding.Finding.{Finding}
use Rattle.log_causes.specs.declared.finding.Finding.TheVariants.{One, Double, Other}
use Rattle.log_run.specs.declared.held.HeldLeases.{HeldLeases}
use Rattle.log_causes.specs.declared.hint.MissingOpen.{MissingOpen}
use Rattle.log_causes.specs.declared.hints.Hints.{Hints}
use Rattle.log_line.specs.declared.line.LoggedCall.{LoggedCall}
use Rattle.log_line.specs.declared.line.LoggedCall.TheVariants.{Whole, HearBare}
use Rattle.log_causes.specs.declared.missing.MissingGrants.{MissingGrants}
use Rattle.log_line.specs.declared.told.CallerReply.{CallerReply}
use Rattle.log_line.specs.declared.told.CallerReply.TheVariants.{Scripted}
use Rattle.lease_rule.specs.declared.answer.Ground.TheVariants.{Down}
use Rattle.lease_rule.specs.declared.answer.Verdict.TheVariants.{Deny}
use Rattle.grants.specs.declared.slicelet_error.SliceletError.TheVariants.{NotStarted}
use Rattle.replies.specs.declared.reply.Refusal.TheVariants.{Slicelet}
use Rattle.replies.specs.declared.reply.Reply.TheVariants as reply
use Rattle.log_run.specs.OneRun.{IsPastOf, IsBreak}

-- the task that makes a call, or whose note the call frees
abbrev pub task_of : LoggedCall → Option ℕ
task_of (Whole (call.Task task c)) = Some task
task_of (Whole (call.Serve task key at)) = Some task
task_of (Whole (call.Hold task key at)) = Some task
task_of (Whole (call.Check task handle at)) = Some task
task_of (Whole (call.Table (table_call.Free note at))) = Some note.task
task_of (HearBare task grant at) = Some task
task_of _ = None

-- a task starts a life
abbrev pub starts : ℕ → LoggedCall → Bool
starts task (Whole (call.Task by (task_call.Start life at))) = by == task
starts task _ = false

abbrev pub is_start : ℕ → LogEntry → Bool
is_start task entry = starts task entry.line.call

-- the place of a task's last start
abbrev pub later_start : Option ℕ → Bool → Option ℕ
later_start (Some place) here = Some (place + 1)
later_start None here = if here then Some 0 else None

abbrev pub last_start : ℕ → List LogEntry → Option ℕ
last_start task [] = None
last_start task (entry ∷ entries) = later_start (last_start task entries) (is_start task entry)

-- the greatest life that a task starts, or opens with, 0 for none
abbrev pub life_begun : ℕ → LoggedCall → ℕ
life_begun task (Whole (call.Task by (task_call.Start life at))) = if by == task then life else 0
life_begun task (Whole (call.Task by (task_call.Resume life))) = if by == task then life else 0
life_begun task _ = 0

abbrev pub begun_life : ℕ → LogEntry → ℕ
begun_life task entry = life_begun task entry.line.call

abbrev pub greatest_life : ℕ → List LogEntry → ℕ
greatest_life task [] = 0
greatest_life task (entry ∷ entries) = max (begun_life task entry) (greatest_life task entries)

-- a line that says that a process of a task begins, with this greatest life so far
abbrev pub open_entry : ℕ → ℕ → LogEntry
open_entry task life = record {
  place = record { file = 0; line = 0 };
  line = record { ticket = 0; call = Whole (call.Task task (task_call.Resume life)); reply = codes "opened " ++ decimal life };
}

abbrev pub with_open : ℕ → LogEntry → List LogEntry → List LogEntry
with_open index line entries = insert entries index line

-- entries with such a line before the one at this place
abbrev pub mended : ℕ → ℕ → List LogEntry → List LogEntry
mended task index entries = with_open index (open_entry task (greatest_life task (take index entries))) entries

-- entries are a run, or one of them is the first whose caller should have been told something else
pub record AreRun (job : Continued) (entries : List LogEntry) : Type 0 where
  pub past : Past
  pub told : IsPastOf job (reverse entries) past
  pub answered : IsRun job past

abbrev pub HaveBreak : Continued → List LogEntry → Type 0
HaveBreak job entries = (index : ℕ) × (wanted : CallerReply) × (held : Option HeldLeases) × IsBreak job entries index wanted held

abbrev pub IsJudgedSo : Continued → List LogEntry → Bool → Type 0
IsJudgedSo job entries true = AreRun job entries
IsJudgedSo job entries false = HaveBreak job entries

-- a line before this place is hinted at if entries are a run with it
abbrev pub IsTried : Continued → List LogEntry → ℕ → ℕ → Option MissingOpen → Type 0
IsTried job entries task index None = HaveBreak job (mended task index entries)
IsTried job entries task index (Some hint) =
    (hint ≡ record { index = index; task = task; life = greatest_life task (take index entries) }) × AreRun job (mended task index entries)

-- a line before the last start of the task, or else before this place
abbrev pub IsHintOf : Continued → List LogEntry → ℕ → Option ℕ → ℕ → Option MissingOpen → Type 0
IsHintOf job entries task None index hint = IsTried job entries task index hint
IsHintOf job entries task (Some start) index hint =
    ((there : MissingOpen) × (hint ≡ Some there) × IsTried job entries task start (Some there))
    ⊎ (IsTried job entries task start None × IsTried job entries task index hint)

abbrev pub IsHintFor : Continued → List LogEntry → ℕ → Option ℕ → Option MissingOpen → Type 0
IsHintFor job entries index None hint = hint ≡ None
IsHintFor job entries index (Some task) hint = IsHintOf job entries task (last_start task entries) index hint

-- the hint for what was found: where a caller was told something else in a call of a task, it is for the entries up to that call
abbrev pub IsHinted : Continued → List LogEntry → Finding → Option MissingOpen → Type 0
IsHinted job entries (Other index wanted held cause) hint =
    IsHintFor job (take (index + 1) entries) index (option_and_then (λ (e : LogEntry). task_of e.line.call) (slice_get entries index)) hint
IsHinted job entries (One steps late) hint = hint ≡ None
IsHinted job entries (Double first second) hint = hint ≡ None

-- the right reply is that the task was not started
abbrev pub is_down : CallerReply → Bool
is_down (Scripted (reply.Verdict (Deny Down))) = true
is_down (Scripted (reply.Refused (Slicelet NotStarted))) = true
is_down _ = false

-- the task whose start a log may lack, where that is the right reply to its call
abbrev pub task_down : Option LogEntry → CallerReply → Option ℕ
task_down (Some entry) wanted = if is_down wanted then task_of entry.line.call else None
task_down None wanted = None

abbrev pub unstarted : List LogEntry → Finding → Option ℕ
unstarted entries (Other index wanted held cause) = task_down (slice_get entries index) wanted
unstarted entries finding = None

-- words tell the grant of this number: they begin as the reply to a `grant` does
abbrev pub tells_grant : ℕ → List ℕ → Bool
tells_grant number words = starts_with nat_eq words (codes "grant " ++ (decimal number ++ codes " "))

-- the number of the grant that words tell, if they tell one with a number below 2 ^ 64
abbrev pub IsNumberTold : List ℕ → Option ℕ → Type 0
IsNumberTold words (Some number) = (number < 2 ^ 64) × (tells_grant number words ≡ true)
IsNumberTold words None = (number : ℕ) → number < 2 ^ 64 → tells_grant number words ≡ false

-- the number of the grant that a caller should have got
abbrev pub number_wanted : CallerReply → Option ℕ
number_wanted (Scripted (reply.Granted grant)) = Some grant.number
number_wanted _ = None

-- the grants from the one that a caller should have got to the last one before that of which it was told
abbrev pub grants_between : Option ℕ → Option ℕ → Option MissingGrants
grants_between (Some wanted) (Some told) = if nat_lt wanted told then Some (record { first = wanted; last = told - 1 }) else None
grants_between _ _ = None

-- words tell one of these grants
abbrev pub IsOneTold : MissingGrants → List ℕ → Bool → Type 0
IsOneTold grants words true = (number : ℕ) × (grants.first ≤ number) × (number ≤ grants.last) × (tells_grant number words ≡ true)
IsOneTold grants words false = (number : ℕ) → grants.first ≤ number → number ≤ grants.last → tells_grant number words ≡ false

-- the words of some entry do
abbrev pub AreTold : MissingGrants → List LogEntry → Bool → Type 0
AreTold grants entries true = (place : ℕ) × (entry : LogEntry) × (slice_get entries place ≡ Some entry) × IsOneTold grants entry.line.reply true
AreTold grants entries false = (place : ℕ) (entry : LogEntry) → slice_get entries place ≡ Some entry → IsOneTold grants entry.line.reply false

-- they are missing if no entry tells one of them
abbrev pub AreMissing : List LogEntry → Option MissingGrants → Option MissingGrants → Type 0
AreMissing entries None missing = missing ≡ None
AreMissing entries (Some grants) None = AreTold grants entries true
AreMissing entries (Some grants) (Some missing) = (missing ≡ grants) × AreTold grants entries false

-- the words of the reply in an entry
abbrev pub words_in : Option LogEntry → List ℕ
words_in (Some entry) = entry.line.reply
words_in None = []

-- the grants that the logs lack, where a caller was told of a later grant than it should have got
abbrev pub AreMissingFor : List LogEntry → Finding → Option MissingGrants → Type 0
AreMissingFor entries (Other index wanted held cause) missing =
    (told : Option ℕ) × IsNumberTold (words_in (slice_get entries index)) told × AreMissing entries (grants_between (number_wanted wanted) told) missing
AreMissingFor entries (One steps late) missing = missing ≡ None
AreMissingFor entries (Double first second) missing = missing ≡ None

-- what the logs may lack, by what was found
pub record AreHints (job : Continued) (entries : List LogEntry) (finding : Finding) (hints : Hints) : Type 0 where
  pub process : IsHinted job entries finding hints.process
  pub start : hints.start ≡ unstarted entries finding
  pub grants : AreMissingFor entries finding hints.grants
