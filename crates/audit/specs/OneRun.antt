-- When closed histories and records are one run of the cluster, and else what is at fault.
use Rattle.std.specs.Prelude.{◌≡◌, ◌≢◌, ℕ, ◌+◌, ◌<◌, ◌≤◌, ◌==◌, Bool, true, false, List, [], ◌∷◌, ◌++◌, All, Contains, length, map, reverse, Option, Some, None, slice_index_or, ◌⊎◌, ◌↔◌}
use Rattle.std.specs.List.{count_by, AllAdjacentBelow, AllZip}
use Rattle.std.specs.List.Sorted.{IsPermutation}
use Rattle.machines.specs.declared.event.Event.{Event as LockEvent}
use Rattle.history_lock.specs.declared.entry.Entry.{Entry}
use Rattle.grants.specs.declared.table_call.TableCall.{TableCall}
use Rattle.grants.specs.declared.slicelet_call.SliceletCall.{SliceletCall}
use Rattle.clerk.specs.declared.call.ClerkCall.{ClerkCall}
use Rattle.job_calls.specs.Jobs.{Job}
use Rattle.job_calls.specs.declared.call.ClusterCall.{ClusterCall}
use Rattle.job_calls.specs.declared.call.ClusterCall.TheVariants as call
use Rattle.job_calls.specs.declared.reply.ClusterReply.{ClusterReply}
use Rattle.job_calls.specs.declared.record.CallRecord.{CallRecord}
use Rattle.cluster.specs.Pasts.{Event, event, Past, is_accepted, readings}
use Rattle.cluster.specs.Timing.{IsTimely}
use Rattle.cluster.specs.Runs.{IsRun}
use Rattle.audit.specs.declared.finding.Why.{Why}
use Rattle.audit.specs.declared.finding.Why.TheVariants.{Double, Order, RefusedEntry, OtherReply}
use Rattle.audit.specs.declared.finding.Audit.{Audit}
use Rattle.audit.specs.declared.finding.Audit.TheVariants.{One, No}

-- a call at its ticket, with what its caller was told; an entry of a history tells that it was accepted
pub record Turn : Type 0 where
  pub ticket : ℕ
  pub call : ClusterCall
  pub told : Option ClusterReply

-- a history: the entries of one lock, in order
abbrev pub Entries : Type 0 → Type 0
Entries C = List (Entry (LockEvent C))

abbrev pub ticket_of : {C : Type 0} → Entry (LockEvent C) → ℕ
ticket_of e = e.event.ticket

abbrev pub entry_turn : {C : Type 0} → (C → ClusterCall) → Entry (LockEvent C) → Turn
entry_turn name e = record { ticket = e.event.ticket; call = name e.event.call; told = None }

abbrev pub record_turn : CallRecord → Turn
record_turn r = record { ticket = r.ticket; call = r.step; told = Some r.reply }

-- the entries of several locks, whose actors are numbered from here on
abbrev pub turns_from : {C : Type 0} → (ℕ → C → ClusterCall) → ℕ → List (Entries C) → List Turn
turns_from name number [] = []
turns_from name number (h ∷ hs) = map (entry_turn (name number)) h ++ turns_from name (number + 1) hs

-- what was closed, and what callers tell
pub record Evidence : Type 0 where
  pub table : Entries TableCall
  pub tasks : List (Entries SliceletCall)
  pub clerks : List (Entries ClerkCall)
  pub records : List CallRecord

-- all entries and records, each once
abbrev pub all_turns : Evidence → List Turn
all_turns e = map (entry_turn call.Table) e.table ++ (turns_from call.Task 1 e.tasks ++ (turns_from call.Clerk 1 e.clerks ++ map record_turn e.records))

-- each number is above the one before it
abbrev pub Rises : {X : Type 0} → (X → ℕ) → List X → Type 0
Rises number xs = AllAdjacentBelow (λ x y. number x < number y) xs (length xs)

abbrev pub HistoriesRise : Evidence → Type 0
HistoriesRise e = Rises ticket_of e.table × (All (Rises ticket_of) e.tasks × All (Rises ticket_of) e.clerks)

-- how many entries and records have a ticket
abbrev pub times : Evidence → ℕ → ℕ
times e ticket = count_by (λ t. t.ticket == ticket) (all_turns e)

abbrev pub TicketsAreDistinct : Evidence → Type 0
TicketsAreDistinct e = (ticket : ℕ) → times e ticket ≤ 1

-- these are the entries and records, each once, in the order of their tickets, which are distinct, and each history rises
pub record IsInOrder (evidence : Evidence) (run : List Turn) : Type 0 where
  pub each : IsPermutation (all_turns evidence) run
  pub distinct : Rises (λ t. t.ticket) run
  pub rising : HistoriesRise evidence

-- an entry was accepted, and of a record the caller was told just this
abbrev pub Fits : ClusterReply → Option ClusterReply → Type 0
Fits reply None = is_accepted reply ≡ true
Fits reply (Some told) = reply ≡ told

-- an event of a past is a turn: its call, with a reply that fits
pub record IsEventOf (turn : Turn) (e : Event) : Type 0 where
  pub same_call : e.call ≡ turn.call
  pub fits : Fits e.reply turn.told

-- the events of a past, newest first, are these turns, oldest first
abbrev pub IsPastOf : List Turn → Past → Type 0
IsPastOf run past = AllZip IsEventOf (reverse run) past

-- an entry of this ticket does not rise over the one before it in its history
pub record Falls {C : Type 0} (history : Entries C) (ticket : ℕ) : Type 0 where
  pub place : ℕ
  pub inside : place + 1 < length history
  pub at : (d : Entry (LockEvent C)) → ticket_of (slice_index_or history (place + 1) d) ≡ ticket
  pub below : (d : Entry (LockEvent C)) → ticket ≤ ticket_of (slice_index_or history place d)

abbrev pub OneFalls : {C : Type 0} → List (Entries C) → ℕ → Type 0
OneFalls histories ticket = (history : Entries _) × Contains histories history × Falls history ticket

abbrev pub HistoryFalls : Evidence → ℕ → Type 0
HistoryFalls e ticket = Falls e.table ticket ⊎ (OneFalls e.tasks ticket ⊎ OneFalls e.clerks ticket)

-- an entry is refused, or a record's caller was told otherwise
abbrev pub IsWrong : Why → ClusterReply → Option ClusterReply → Type 0
IsWrong RefusedEntry reply None = is_accepted reply ≡ false
IsWrong OtherReply reply (Some told) = reply ≢ told
IsWrong _ reply told = ⊥

-- the turns before this ticket are a run, and the cluster answers its own wrongly
pub record IsBreak (job : Job) (run : List Turn) (ticket : ℕ) (why : Why) : Type 0 where
  pub before : List Turn
  pub turn : Turn
  pub later : List Turn
  pub whole : run ≡ before ++ turn ∷ later
  pub at : turn.ticket ≡ ticket
  pub past : Past
  pub told : IsPastOf before past
  pub reply : ClusterReply
  pub answered : IsRun job (event turn.call reply ∷ past)
  pub wrong : IsWrong why reply turn.told

-- the turns are a run of the cluster: so many, with timely clocks or not
pub record IsOneRun (job : Job) (run : List Turn) (steps : ℕ) (timely : Bool) : Type 0 where
  pub past : Past
  pub told : IsPastOf run past
  pub answered : IsRun job past
  pub count : steps ≡ length run
  pub clocks : (timely ≡ true) ↔ IsTimely job.policy.skew (readings past)

-- what is said of turns in order: they are a run, or one of them breaks it
abbrev pub IsReplayed : Job → List Turn → Audit → Type 0
IsReplayed job run (One steps timely) = IsOneRun job run steps timely
IsReplayed job run (No ticket why) = IsBreak job run ticket why

-- a fault stands at a ticket: it stands twice; none stands twice, and an entry of this one does not rise in its history;
-- or all are in order, and the answer at this one is another
abbrev pub IsFault : Job → Evidence → ℕ → Why → Type 0
IsFault job e ticket Double = 2 ≤ times e ticket
IsFault job e ticket Order = TicketsAreDistinct e × HistoryFalls e ticket
IsFault job e ticket RefusedEntry = (run : List Turn) × IsInOrder e run × IsBreak job run ticket RefusedEntry
IsFault job e ticket OtherReply = (run : List Turn) × IsInOrder e run × IsBreak job run ticket OtherReply

abbrev pub IsAudit : Job → Evidence → Audit → Type 0
IsAudit job e (One steps timely) = (run : List Turn) × IsInOrder e run × IsOneRun job run steps timely
IsAudit job e (No ticket why) = IsFault job e ticket why
