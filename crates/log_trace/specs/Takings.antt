-- Handles that are watched, and the first calls that took their keys away.
use Rattle.std.specs.Prelude.{◌≡◌, ⊤, List, Option, None, MatchOption, if◌then◌else◌}
use Rattle.std.specs.List.{All, Any}
use Rattle.replies.specs.declared.reply.Reply.TheVariants as reply
use Rattle.cluster.specs.continued.Jobs.{Continued}
use Rattle.log_line.specs.declared.entry.LogEntry.{LogEntry}
use Rattle.log_line.specs.declared.told.CallerReply.TheVariants.{Scripted}
use Rattle.log_line.specs.Told.{is_worded}
use Rattle.log_causes.specs.Broken.{IsTakingOr}
use Rattle.log_trace.specs.declared.breaking.BrokenHandle.{BrokenHandle}
use Rattle.log_trace.specs.declared.takings.Taking.{Taking}
use Rattle.log_trace.specs.declared.takings.Takings.{Takings}
use Rattle.log_trace.specs.Lines.{broken_by}

-- of a handle, the first of these entries that took its key away, or that there is none
abbrev pub IsTakingOf : Continued → List LogEntry → Taking → Type 0
IsTakingOf job entries t = IsTakingOr job entries t.broken.task t.broken.handle t.first

-- the same of each handle that is watched
abbrev pub AreTakings : Continued → List LogEntry → Takings → Type 0
AreTakings job entries takings = All (IsTakingOf job entries) takings.all.items

-- the handle that the caller of an entry found broken, by the words of the log
abbrev pub told_broken : LogEntry → Option BrokenHandle
told_broken e = if is_worded e.line.reply (Scripted reply.Broken) then broken_by e.line.call (Scripted reply.Broken) else None

abbrev pub IsWatched : List Taking → BrokenHandle → Type 0
IsWatched takings broken = Any (λ t. t.broken ≡ broken) takings

-- each handle that a caller found broken is watched
abbrev pub AreAllWatched : List LogEntry → List Taking → Type 0
AreAllWatched entries takings = All (λ e. MatchOption (told_broken e) ⊤ (IsWatched takings)) entries
