-- The readings at which a task may serve a key, each with the lease that lets it, and stretches of them.
use Rattle.std.specs.Prelude.{◌≡◌, ◌≢◌, ◌⊎◌, ⊤, min, false, ℕ, ◌+◌, ◌≤◌, ◌<◌, ◌==◌, Bool, ◌&&◌, ◌||◌, nat_lt, nat_le, List, [], ◌∷◌, reverse, Option, Some, None, option_map, if◌then◌else◌}
use Rattle.lease_rule.specs.declared.lease.Kind.{Kind}
use Rattle.lease_rule.specs.declared.lease.Kind.TheVariants.{Guard, Bridge}
use Rattle.lease_rule.specs.declared.answer.Verdict.{Verdict}
use Rattle.lease_rule.specs.declared.answer.Verdict.TheVariants.{Allow, Deny}
use Rattle.grants.specs.declared.values.Grant.{Grant}
use Rattle.grants.specs.declared.slicelet_call.SliceletCall.{SliceletCall}
use Rattle.slicelet.specs.Calls.{is_resume, reading_of, last_reading}
use Rattle.slicelet.specs.Rules.{covers_key, rule_after}
use Rattle.slicelet.specs.Calls.{held_grant}
use Rattle.slicelet.specs.States.{SliceletState, rule_in_state}
use Rattle.stretches.specs.declared.stretch.ServingLease.{ServingLease}
use Rattle.stretches.specs.declared.stretch.Stretch.{Stretch}
use Rattle.stretches.specs.declared.key_stretches.KeyStretches.{KeyStretches}

-- THE LEASE THAT LETS A TASK SERVE

-- the held lease of a kind, by its grant
abbrev pub lease_of : Kind → Grant → ServingLease
lease_of kind grant = record { kind = kind; number = grant.number; generation = grant.lease.generation }

-- something of the held lease by which the rule allows a key
abbrev pub of_allowing : {A : Type 0} → (Kind → Grant → A) → Verdict → Option Grant → Option Grant → Option A
of_allowing f (Allow Guard generation) guard bridge = option_map (f Guard) guard
of_allowing f (Allow Bridge generation) guard bridge = option_map (f Bridge) bridge
of_allowing f (Deny why) guard bridge = None

-- the lease under which a task may serve a key at a reading after these calls
abbrev pub serving_after : ℕ → List SliceletCall → ℕ → Option ServingLease
serving_after key calls at = of_allowing lease_of (rule_after (covers_key key) calls at) (held_grant Guard calls) (held_grant Bridge calls)

-- PROCESSES AND READINGS

-- how many processes of the task began with these calls, beside its first
abbrev pub processes : List SliceletCall → ℕ
processes [] = 0
processes (c ∷ calls) = if is_resume c then processes calls + 1 else processes calls

-- the calls up to the end of a process
abbrev pub calls_through : ℕ → List SliceletCall → List SliceletCall
calls_through process [] = []
calls_through process (c ∷ calls) = if nat_lt process (processes (c ∷ calls)) then calls_through process calls else c ∷ calls

-- of these calls, those up to a reading of the process that made the last one
abbrev pub calls_up_to : ℕ → List SliceletCall → List SliceletCall
calls_up_to at [] = []
calls_up_to at (c ∷ calls) = if is_resume c || nat_le (reading_of c) at then c ∷ calls else calls_up_to at calls

-- the lease under which a process of the task may serve a key at a reading, on the calls that it accepted up to there
abbrev pub serving_at : ℕ → List SliceletCall → ℕ → ℕ → Option ServingLease
serving_at key calls process at =
    if nat_lt (processes calls) process then None else serving_after key (calls_up_to at (calls_through process calls)) at

-- STRETCHES

-- a reading of a process lies in a stretch, from its first reading on and below its end
abbrev pub is_in : ℕ → ℕ → Stretch → Bool
is_in process at s = s.process == process && (nat_le s.from at && nat_lt at s.to)

-- the lease of the stretch in which a reading lies
abbrev pub lease_in : ℕ → ℕ → List Stretch → Option ServingLease
lease_in process at [] = None
lease_in process at (s ∷ stretches) = if is_in process at s then Some s.lease else lease_in process at stretches

-- a stretch ends before another one begins; where they touch, they are under other leases
abbrev pub IsBefore : Stretch → Stretch → Type 0
IsBefore s next = (s.process < next.process) ⊎ ((s.process ≡ next.process) × (s.to ≤ next.from) × (s.to ≡ next.from → s.lease ≢ next.lease))

-- the newest of these stretches, if there is one, is before another one
abbrev pub IsNewestBefore : List Stretch → Stretch → Type 0
IsNewestBefore [] next = ⊤
IsNewestBefore (s ∷ stretches) next = IsBefore s next

-- stretches, newest first, that have readings, each after those before it
abbrev pub AreApart : List Stretch → Type 0
AreApart [] = ⊤
AreApart (s ∷ stretches) = (s.from < s.to) × IsNewestBefore stretches s × AreApart stretches

-- stretches, oldest first, are the readings at which each process of a task may serve a key, with the lease that lets it, and are as long as can be
pub record AreStretches (key : ℕ) (calls : List SliceletCall) (stretches : List Stretch) : Type 0 where
  pub serve : (process at : ℕ) → lease_in process at (reverse stretches) ≡ serving_at key calls process at
  pub apart : AreApart (reverse stretches)

-- WHAT IS KEPT

-- a stretch that begins at a reading and lasts until a lease ends
abbrev pub stretch_of : ℕ → ℕ → Kind → Grant → Stretch
stretch_of process from kind grant = record { process = process; from = from; to = grant.lease.ends; lease = lease_of kind grant }

-- the stretch that begins at a reading, by what a slicelet knows
abbrev pub stretch_in : SliceletState → ℕ → ℕ → ℕ → Option Stretch
stretch_in s key process from = of_allowing (stretch_of process from) (rule_in_state (covers_key key) s from) s.guard s.bridge

-- the stretch that begins where another one ends
abbrev pub then_in : SliceletState → ℕ → ℕ → Option Stretch → Option Stretch
then_in s key process None = None
then_in s key process (Some first) = stretch_in s key process first.to

-- the first of two values that is there
abbrev pub first_some : Option ServingLease → Option ServingLease → Option ServingLease
first_some (Some lease) other = Some lease
first_some None other = other

-- the lease of a stretch in which a reading lies, if there is such a stretch
abbrev pub lease_by : ℕ → ℕ → Option Stretch → Option ServingLease
lease_by process at None = None
lease_by process at (Some s) = if is_in process at s then Some s.lease else None

-- the newest of these stretches, if there is one, ends at a reading of a process, or before
abbrev pub EndBy : ℕ → ℕ → List Stretch → Type 0
EndBy process now [] = ⊤
EndBy process now (s ∷ stretches) = (s.process < process) ⊎ ((s.process ≡ process) × (s.to ≤ now))

-- the part of a stretch below a reading
abbrev pub part_below : ℕ → Stretch → Option Stretch
part_below now s = if nat_lt s.from now then Some (record s { to = min s.to now }) else None

abbrev pub below : ℕ → Option Stretch → Option Stretch
below now None = None
below now (Some s) = part_below now s

-- a stretch that begins at a reading of a process
abbrev pub BeginsAt : ℕ → ℕ → Stretch → Type 0
BeginsAt process from s = (s.process ≡ process) × (s.from ≡ from) × (s.from < s.to)

-- at most two stretches from a reading on, the second where the first ends, under another lease
abbrev pub AreNext : ℕ → ℕ → Option Stretch → Option Stretch → Type 0
AreNext process from None None = ⊤
AreNext process from None (Some second) = ⊥
AreNext process from (Some first) None = BeginsAt process from first
AreNext process from (Some first) (Some second) = BeginsAt process from first × BeginsAt process first.to second × (first.lease ≢ second.lease)

-- a reading of a process is over after these calls: a later process began, or this one read its clock above it
abbrev pub is_over : List SliceletCall → ℕ → ℕ → Bool
is_over calls process at = nat_lt process (processes calls) || (process == processes calls && nat_lt at (last_reading calls))

-- what is kept after these calls: the stretches that are over, and those from the last reading on
pub record IsKept (calls : List SliceletCall) (kept : KeyStretches) : Type 0 where
  pub process : kept.process ≡ processes calls
  pub over : (process at : ℕ) → lease_in process at (reverse kept.over.items) ≡ (if is_over calls process at then serving_at kept.key calls process at else None)
  pub end : EndBy kept.process (last_reading calls) (reverse kept.over.items)
  pub apart : AreApart (reverse kept.over.items)
  pub rest : (at : ℕ) → last_reading calls ≤ at → first_some (lease_by kept.process at kept.second) (lease_by kept.process at kept.first) ≡ serving_after kept.key calls at
  pub next : AreNext kept.process (last_reading calls) kept.first kept.second

-- no call was accepted since, or one that begins no process
abbrev pub IsNext : List SliceletCall → List SliceletCall → Type 0
IsNext before after = (after ≡ before) ⊎ ((c : SliceletCall) × (after ≡ c ∷ before) × (is_resume c ≡ false))
