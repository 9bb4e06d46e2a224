-- What is written of the calls of a log.
use Rattle.std.specs.Prelude.{ℕ, ◌-◌, ◌==◌, ◌&&◌, not, Bool, List, [], ◌++◌, codes, decimal, length, Option, Some, None, slice_get, if◌then◌else◌}
use Rattle.std.specs.List.{flat_map}
use Rattle.faults.specs.Quoted.{escaped}
use Rattle.job_calls.specs.Jobs.{Job}
use Rattle.log_line.specs.declared.entry.LogEntry.{LogEntry}
use Rattle.log_line.specs.declared.told.CallerReply.{CallerReply}
use Rattle.log_line.specs.Told.{plain_text}
use Rattle.log_causes.specs.declared.comparing.TheConstants.{MOST_WRONG_REPLIES}
use Rattle.log_causes.specs.Callers.{clerk_counts, silent_tasks, table_count, task_counts}
use Rattle.log_causes.specs.Coarse.{coarse_count}
use Rattle.log_run.specs.declared.late.Late.{Late}
use Rattle.log_run.specs.declared.outcome.Outcome.{Outcome}
use Rattle.log_run.specs.declared.outcome.Outcome.TheVariants.{One, Double, Other}
use Rattle.audit_text.specs.declared.comparing.WrongReply.{WrongReply}
use Rattle.audit_text.specs.Counts.{calls_line, coarse_line, silent_line}
use Rattle.audit_text.specs.Standing.{standing_at}

-- the ticket of an entry
abbrev pub ticket_of : Option LogEntry → ℕ
ticket_of (Some entry) = entry.line.ticket
ticket_of None = 0

-- where the table read its clock before, and how much
abbrev pub table_read_text : List (List ℕ) → List LogEntry → Option ℕ → ℕ → List ℕ
table_read_text names entries (Some index) at = standing_at names entries index ++ (codes " read " ++ (decimal at ++ codes " before it"))
table_read_text names entries None at = codes "the table read " ++ (decimal at ++ codes " in earlier logs")

-- whether the clocks were timely, and else the two readings
abbrev pub clocks_text : ℕ → List (List ℕ) → List LogEntry → Option Late → List ℕ
clocks_text skew names entries None = codes "timely yes\n"
clocks_text skew names entries (Some late) =
    codes "timely no: " ++ (standing_at names entries late.index ++ (codes " read " ++ (decimal late.at ++ (codes ", "
    ++ (table_read_text names entries late.table_index late.table_at ++ (codes ", skew " ++ (decimal skew ++ codes "\n")))))))

-- the lines for calls that are one run: how many there are, of which actors, how many replies were judged by one word, whose calls the log may
-- lack, and whether the clocks were timely
abbrev pub one_text : Job → List (List ℕ) → List LogEntry → ℕ → Option Late → List ℕ
one_text job names entries steps late =
    codes "audit one\nsteps " ++ (decimal steps ++ (codes "\n"
    ++ (calls_line (table_count entries) (task_counts job entries) (clerk_counts job entries) ++ (coarse_line (coarse_count entries)
    ++ (silent_line (silent_tasks job entries) ++ clocks_text job.policy.skew names entries late)))))

-- two entries of one ticket, the later one first
abbrev pub double_text : List (List ℕ) → List LogEntry → ℕ → ℕ → List ℕ
double_text names entries first second =
    standing_at names entries second ++ (codes ": ticket " ++ (decimal (ticket_of (slice_get entries first))
    ++ (codes " is also at " ++ (standing_at names entries first ++ codes "\n"))))

-- a call whose caller was told otherwise: where it stands, what was told, with escapes, and what should have been
abbrev pub told_text : List ℕ → List ℕ → CallerReply → List ℕ
told_text standing told wanted =
    standing ++ (codes ": told \"" ++ (escaped told ++ (codes "\"; should be \"" ++ (plain_text wanted ++ codes "\"\n"))))

-- it tells the words of the line
abbrev pub wrong_line : List ℕ → Option LogEntry → CallerReply → List ℕ
wrong_line standing (Some entry) wanted = told_text standing entry.line.reply wanted
wrong_line standing None wanted = []

abbrev pub wrong_text : List (List ℕ) → List LogEntry → ℕ → CallerReply → List ℕ
wrong_text names entries index wanted = wrong_line (standing_at names entries index) (slice_get entries index) wanted

-- the lines for what was found
abbrev pub outcome_text : Job → List (List ℕ) → List LogEntry → Outcome → List ℕ
outcome_text job names entries (One steps late) = one_text job names entries steps late
outcome_text job names entries (Double first second) = double_text names entries first second
outcome_text job names entries (Other index wanted held machines) = wrong_text names entries index wanted

-- where no more wrong replies are told, the calls after the last of them were not judged
abbrev pub cut_text : ℕ → List ℕ
cut_text count = if count == MOST_WRONG_REPLIES - 1 then codes "the calls after this one were not judged\n" else []

-- the wrong replies after the first one
abbrev pub later_text : List (List ℕ) → List LogEntry → List WrongReply → List ℕ
later_text names entries later = flat_map (λ (w : WrongReply). wrong_text names entries w.index w.wanted) later ++ cut_text (length later)

-- all lines on the calls
abbrev pub whole_text : Job → List (List ℕ) → List LogEntry → Outcome → List WrongReply → List ℕ
whole_text job names entries outcome later = outcome_text job names entries outcome ++ later_text names entries later

-- calls are one run from a snapshot, and one of them was refused as not sent
abbrev pub unsent_text : Bool → Bool → Bool → List ℕ
unsent_text from_snapshot one all_sent = if from_snapshot && (one && not all_sent)
    then codes "not-sent: what earlier logs sent may be forgotten, so only an audit of all logs judges these refusals\n" else []
