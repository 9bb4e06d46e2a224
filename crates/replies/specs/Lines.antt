-- The lines that are written for the replies.
use Rattle.std.specs.Prelude.{ℕ, ◌-◌, List, [], ◌∷◌, ◌++◌, length, replicate, codes, decimal, false, Option, Some, None}
use Rattle.std.specs.List.{flat_map}
use Rattle.std.specs.Fmt.{radix_digits}
use Rattle.assignment.specs.declared.error.AssignmentError.{AssignmentError}
use Rattle.assignment.specs.declared.error.AssignmentError.TheVariants as assignment
use Rattle.slice_ranges.specs.declared.error.RangesError.{RangesError}
use Rattle.slice_ranges.specs.declared.error.RangesError.TheVariants as ranges
use Rattle.lease_rule.specs.declared.answer.Ground.{Ground}
use Rattle.lease_rule.specs.declared.answer.Ground.TheVariants as ground
use Rattle.lease_rule.specs.declared.answer.Verdict.{Verdict}
use Rattle.lease_rule.specs.declared.answer.Verdict.TheVariants.{Allow, Deny}
use Rattle.grants.specs.declared.values.Phase.{Phase}
use Rattle.grants.specs.declared.values.Phase.TheVariants.{Steady, Bridging}
use Rattle.grants.specs.declared.values.Row.{Row}
use Rattle.grants.specs.declared.table_error.TableError.{TableError}
use Rattle.grants.specs.declared.table_error.TableError.TheVariants as table
use Rattle.grants.specs.declared.slicelet_error.SliceletError.{SliceletError}
use Rattle.grants.specs.declared.slicelet_error.SliceletError.TheVariants as slicelet
use Rattle.clerk.specs.declared.error.ClerkError.{ClerkError}
use Rattle.clerk.specs.declared.error.ClerkError.TheVariants as clerk
use Rattle.load_ledger.specs.declared.error.LoadError.{LoadError}
use Rattle.load_ledger.specs.declared.error.LoadError.TheVariants as load
use Rattle.weighted_move.specs.declared.error.PlanError.{PlanError}
use Rattle.weighted_move.specs.declared.error.PlanError.TheVariants as plan
use Rattle.weighted_move.specs.declared.moves.Move.{Move}
use Rattle.assignment.specs.declared.slice.Slice.{Slice}
use Rattle.wire.specs.LeaseMembers.{kind_word}
use Rattle.assigner.specs.declared.action.Action.{Action}
use Rattle.assigner.specs.declared.action.Action.TheVariants as action
use Rattle.replies.specs.declared.reply.Refusal.{Refusal}
use Rattle.replies.specs.declared.reply.Refusal.TheVariants as refusal
use Rattle.replies.specs.declared.reply.Reply.{Reply}
use Rattle.replies.specs.declared.reply.Reply.TheVariants as reply

-- a number in 16 hexadecimal digits, in lower case, with zeros in front
abbrev pub hex_16 : ℕ → List ℕ
hex_16 n = let digits = radix_digits 16 false n in replicate (16 - length digits) 48 ++ digits

-- the words for slices that make no assignment; the last is in no reply
abbrev pub slices_words : AssignmentError → List ℕ
slices_words assignment.NoSlices = codes "no-slices"
slices_words assignment.FirstNotZero = codes "first-not-zero"
slices_words assignment.NotRising = codes "not-rising"
slices_words assignment.PastEnd = codes "past-end"
slices_words assignment.NoOwner = codes "no-owner"
slices_words assignment.TooManyOwners = codes "too-many-owners"
slices_words assignment.OwnerTwice = codes "owner-twice"
slices_words assignment.BadTask = codes "bad-task"
slices_words assignment.TooManySlices = codes "too-many-slices"

-- the words for pairs that make no set; the last is in no reply
abbrev pub ranges_words : RangesError → List ℕ
ranges_words ranges.Unsorted = codes "unsorted"
ranges_words ranges.Empty = codes "empty"
ranges_words ranges.PastEnd = codes "past-end"

-- the words for why a key is not served
abbrev pub ground_words : Ground → List ℕ
ground_words ground.Down = codes "down"
ground_words ground.ClockBack = codes "clock-back"
ground_words ground.Ended = codes "ended"
ground_words (ground.NotOwned generation) = codes "not-owned " ++ decimal generation
ground_words ground.NoLease = codes "no-lease"

-- the words of a verdict
abbrev pub verdict_words : Verdict → List ℕ
verdict_words (Allow kind generation) = codes "served " ++ kind_word kind ++ codes " " ++ decimal generation
verdict_words (Deny why) = codes "denied " ++ ground_words why

-- the words for why the table refuses
abbrev pub table_words : TableError → List ℕ
table_words table.ReadingRange = codes "reading-range"
table_words table.ClockBack = codes "clock-back"
table_words (table.JobHeld until) = codes "job-held " ++ decimal until
table_words (table.NotHolder term) = codes "not-holder " ++ decimal term
table_words (table.StaleBase generation) = codes "stale-base " ++ decimal generation
table_words table.Pending = codes "pending"
table_words table.NothingPending = codes "nothing-pending"
table_words table.TooManyOwnersForJob = codes "too-many-owners-for-job"
table_words (table.Grace until) = codes "grace " ++ decimal until
table_words (table.Held task kind number) = codes "held " ++ decimal task ++ codes " " ++ kind_word kind ++ codes " " ++ decimal number
table_words table.NoRow = codes "no-row"
table_words table.NoAssignment = codes "no-assignment"
table_words table.NumbersSpent = codes "numbers-spent"

-- the words for why a slicelet refuses
abbrev pub slicelet_words : SliceletError → List ℕ
slicelet_words slicelet.NotStarted = codes "not-started"
slicelet_words slicelet.OldLife = codes "old-life"
slicelet_words slicelet.ClockBack = codes "clock-back"
slicelet_words slicelet.OtherTask = codes "other-task"
slicelet_words slicelet.OtherLife = codes "other-life"
slicelet_words (slicelet.Old heard) = codes "old " ++ decimal heard
slicelet_words slicelet.TooLate = codes "too-late"
slicelet_words slicelet.NothingHeld = codes "nothing-held"
slicelet_words slicelet.HistoryFull = codes "history-full"

-- the words for why a clerk refuses
abbrev pub clerk_words : ClerkError → List ℕ
clerk_words (clerk.Old generation) = codes "old " ++ decimal generation

-- the words for why work is not counted
abbrev pub load_words : LoadError → List ℕ
load_words load.WeightRange = codes "weight-range"
load_words load.TotalRange = codes "total-range"

-- the words for why there is no plan; the last is in no reply
abbrev pub plan_words : PlanError → List ℕ
plan_words plan.NoTasks = codes "no-tasks"
plan_words plan.LoadsLength = codes "loads-length"
plan_words plan.LoadRange = codes "load-range"

-- the words for a refusal; the first is in no reply to a script, whose actors are all of its job
abbrev pub refusal_words : Refusal → List ℕ
refusal_words refusal.NoActor = codes "no-actor"
refusal_words refusal.NotSent = codes "not-sent"
refusal_words refusal.NoDraft = codes "no-draft"
refusal_words (refusal.Slices error) = slices_words error
refusal_words (refusal.Ranges error) = ranges_words error
refusal_words (refusal.Table error) = table_words error
refusal_words (refusal.Slicelet error) = slicelet_words error
refusal_words refusal.Stranger = codes "stranger"
refusal_words (refusal.Clerk error) = clerk_words error
refusal_words refusal.Unknown = codes "unknown"
refusal_words (refusal.Load error) = load_words error
refusal_words (refusal.Plan error) = plan_words error

-- a task after another one
abbrev pub next_owner : ℕ → List ℕ
next_owner task = codes "," ++ decimal task

-- the numbers of tasks, joined by commas
abbrev pub owners_text : List ℕ → List ℕ
owners_text [] = []
owners_text (task ∷ tasks) = decimal task ++ flat_map next_owner tasks

-- the words of the table's phase
abbrev pub phase_words : Phase → List ℕ
phase_words (Steady generation) = codes "steady " ++ decimal generation
phase_words (Bridging from to) = codes "bridging " ++ decimal from ++ codes " " ++ decimal to

-- a row: its number, task, life, kind, generation and the table's deadline, joined by colons
unfoldable pub row_text : Row → List ℕ
row_text row =
    (decimal row.number ++ codes ":" ++ decimal row.task ++ codes ":" ++ decimal row.life)
    ++ (codes ":" ++ kind_word row.kind ++ codes ":" ++ decimal row.generation ++ codes ":" ++ decimal row.table_ends)

-- a row after another one
abbrev pub next_row : Row → List ℕ
next_row row = codes " " ++ row_text row

-- rows, joined by spaces
unfoldable pub rows_text : List Row → List ℕ
rows_text [] = []
rows_text (row ∷ rows) = row_text row ++ flat_map next_row rows

-- a number after a space
abbrev pub next_number : ℕ → List ℕ
next_number number = codes " " ++ decimal number

-- a slice: its start and its owners, joined by a colon
abbrev pub slice_text : Slice → List ℕ
slice_text slice = decimal slice.start ++ codes ":" ++ owners_text slice.owners

-- a slice after another one
abbrev pub next_slice : Slice → List ℕ
next_slice slice = codes " " ++ slice_text slice

-- slices, joined by spaces
unfoldable pub slices_text : List Slice → List ℕ
slices_text [] = []
slices_text (slice ∷ slices) = slice_text slice ++ flat_map next_slice slices

-- how a move changes the owners of a slice: from one task to another, one more, or one fewer; no move changes none
abbrev pub owner_change_text : Option ℕ → Option ℕ → List ℕ
owner_change_text (Some giver) (Some taker) = decimal giver ++ codes ">" ++ decimal taker
owner_change_text None (Some taker) = codes "+" ++ decimal taker
owner_change_text (Some giver) None = codes "-" ++ decimal giver
owner_change_text None None = []

-- a move: the start of its slice, the change of its owners, its gain and its churn
unfoldable pub move_text : Move → List ℕ
move_text move =
    (decimal move.start ++ codes ":" ++ owner_change_text move.giver move.taker)
    ++ (codes " gain " ++ decimal move.gain ++ codes " churn " ++ decimal move.churn)

-- a move after another one
abbrev pub next_move : Move → List ℕ
next_move move = codes ", " ++ move_text move

-- moves, joined by commas and spaces
unfoldable pub moves_text : List Move → List ℕ
moves_text [] = []
moves_text (move ∷ moves) = move_text move ++ flat_map next_move moves

-- the word for what an assigner does next
abbrev pub action_word : Action → List ℕ
action_word action.Take = codes "take"
action_word action.Renew = codes "renew"
action_word action.Commit = codes "commit"
action_word action.Propose = codes "propose"
action_word action.Rest = codes "rest"

-- the words of a reply; the last are never written
abbrev pub reply_text : Reply → List ℕ
reply_text (reply.Key key) = codes "key " ++ hex_16 key
reply_text (reply.Assigned generation slices) = codes "assigned " ++ decimal generation ++ codes " slices " ++ decimal slices
reply_text (reply.Owners tasks) = codes "owners " ++ owners_text tasks
reply_text (reply.Verdict verdict) = verdict_words verdict
reply_text (reply.Term term) = codes "term " ++ decimal term.number ++ codes " until " ++ decimal term.until
reply_text (reply.Renewed term) = codes "renewed " ++ decimal term.number ++ codes " until " ++ decimal term.until
reply_text (reply.Proposed generation) = codes "proposed " ++ decimal generation
reply_text (reply.Committed generation) = codes "committed " ++ decimal generation
reply_text (reply.Phase phase) = codes "phase " ++ phase_words phase
reply_text (reply.Rows rows) = codes "rows [" ++ rows_text rows ++ codes "]"
reply_text (reply.Granted grant) =
    codes "grant " ++ decimal grant.number ++ codes " " ++ kind_word grant.lease.kind ++ codes " " ++ decimal grant.lease.generation
    ++ codes " until " ++ decimal grant.table_ends ++ codes " " ++ decimal grant.lease.ends
reply_text (reply.Freed rows) = codes "freed " ++ decimal rows
reply_text (reply.Started life) = codes "started " ++ decimal life
reply_text (reply.Heard number) = codes "heard " ++ decimal number
reply_text (reply.Released number note) = codes "released note " ++ decimal number ++ codes " number " ++ decimal note.number
reply_text (reply.Holding number handle) = codes "handle " ++ decimal number
reply_text reply.Continuous = codes "continuous"
reply_text reply.Broken = codes "broken"
reply_text (reply.Learnt generation) = codes "learnt " ++ decimal generation
reply_text (reply.Found found) = codes "found generation " ++ decimal found.generation ++ codes " owners " ++ owners_text found.owners.items
reply_text reply.Forgotten = codes "forgotten"
reply_text (reply.Recorded total) = codes "recorded " ++ decimal total
reply_text (reply.Gathered loads totals) = codes "loads" ++ flat_map next_number loads ++ codes " totals" ++ flat_map next_number totals
reply_text (reply.Planned plan) = codes "plan [" ++ slices_text plan.slices ++ codes "] moves [" ++ moves_text plan.moves ++ codes "]"
reply_text (reply.Next action) = codes "next " ++ action_word action
reply_text reply.TermDropped = codes "restarted"
reply_text (reply.Lost rows) = codes "lost " ++ decimal rows
reply_text (reply.Refused refusal) = codes "refused " ++ refusal_words refusal
reply_text reply.NoMemory = codes "no-memory"

-- the line of a reply
abbrev pub line_of : Reply → List ℕ
line_of reply = reply_text reply ++ codes "\n"
