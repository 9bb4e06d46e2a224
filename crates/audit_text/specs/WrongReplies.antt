-- The calls of a log whose callers got a wrong reply, where the machines make all of its calls.
use Rattle.std.specs.Prelude.{◌≡◌, ◌⊎◌, ℕ, Bool, true, false, List, [], ◌∷◌, length, reverse, take, drop}
use Rattle.cluster.specs.continued.Jobs.{Continued, job_in}
use Rattle.cluster.specs.Pasts.{Past}
use Rattle.cluster.specs.continued.Runs.{IsRun}
use Rattle.log_line.specs.declared.entry.LogEntry.{LogEntry}
use Rattle.log_line.specs.declared.told.CallerReply.{CallerReply}
use Rattle.log_line.specs.Told.{is_worded}
use Rattle.log_causes.specs.declared.comparing.TheConstants.{MOST_WRONG_REPLIES}
use Rattle.log_run.specs.declared.outcome.Outcome.{Outcome}
use Rattle.log_run.specs.declared.outcome.Outcome.TheVariants.{Other}
use Rattle.log_run.specs.Played.{StandsFor}
use Rattle.audit_text.specs.declared.comparing.WrongReply.{WrongReply}

-- the calls of a past are those that these entries stand for, and these are the wrong replies to them: each names the place of its entry, whose
-- caller should have been told this and was told something else; all are newest first
abbrev pub AreWrongReplies : Continued → List LogEntry → Past → List WrongReply → Type 0
AreWrongReplies job [] past replies = (past ≡ job.earlier) × (replies ≡ [])
AreWrongReplies job (entry ∷ earlier) past replies =
    (before : Past) × (told : CallerReply) × StandsFor (job_in job) before entry.line.call told past
    × (((is_worded entry.line.reply told ≡ true) × AreWrongReplies job earlier before replies)
    ⊎ ((others : List WrongReply) × (replies ≡ record { index = length earlier; wanted = told } ∷ others)
    × (is_worded entry.line.reply told ≡ false) × AreWrongReplies job earlier before others))

-- the wrong replies to entries, or the first of them: as many as are told at most
pub record AreFirstWrongReplies (job : Continued) (entries : List LogEntry) (replies : List WrongReply) : Type 0 where
  pub judged : ℕ
  pub past : Past
  pub are : AreWrongReplies job (reverse (take judged entries)) past (reverse replies)
  pub answered : IsRun job past
  pub enough : (judged ≡ length entries) ⊎ (length replies ≡ MOST_WRONG_REPLIES)

-- the wrong replies that are told after the first one, if all are wanted
abbrev pub AreLater : Continued → List LogEntry → Bool → Outcome → List WrongReply → Type 0
AreLater job entries true (Other index wanted held machines) later =
    (replies : List WrongReply) × AreFirstWrongReplies job entries replies × (later ≡ drop 1 replies)
AreLater job entries all outcome later = later ≡ []
