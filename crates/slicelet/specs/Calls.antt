-- What the slicelets of a task heard: their accepted calls over all processes and lives, newest first.
use Rattle.std.specs.Prelude.{ℕ, Bool, true, false, List, [], ◌∷◌, find, length, Option, Some, None, if◌then◌else◌}
use Rattle.lease_rule.specs.declared.lease.Kind.{Kind}
use Rattle.lease_rule.specs.Leases.{same_kind}
use Rattle.lease_rule.specs.Rule.{greatest}
use Rattle.grants.specs.declared.values.Grant.{Grant}
use Rattle.grants.specs.declared.slicelet_call.SliceletCall.{SliceletCall}
use Rattle.grants.specs.declared.slicelet_call.SliceletCall.TheVariants.{Start, Hear, Release, Resume}

-- the reading that a call leaves as the last one; the clock of a new process counts from 0
abbrev pub reading_of : SliceletCall → ℕ
reading_of (Start life at) = at
reading_of (Hear grant at) = at
reading_of (Release kind at) = at
reading_of (Resume life) = 0

-- the last reading of this process, 0 before its first call
abbrev pub last_reading : List SliceletCall → ℕ
last_reading [] = 0
last_reading (c ∷ h) = reading_of c

-- a new process begins
abbrev pub is_resume : SliceletCall → Bool
is_resume (Start life at) = false
is_resume (Hear grant at) = false
is_resume (Release kind at) = false
is_resume (Resume life) = true

-- the calls of this process: those since the last `resume`
abbrev pub this_process : List SliceletCall → List SliceletCall
this_process [] = []
this_process (c ∷ h) = if is_resume c then [] else c ∷ this_process h

-- how many calls this process accepted
abbrev pub count_of : List SliceletCall → ℕ
count_of h = length (this_process h)

-- this process accepted a `start`
abbrev pub started_after : SliceletCall → Bool → Bool
started_after (Start life at) before = true
started_after (Hear grant at) before = before
started_after (Release kind at) before = before
started_after (Resume life) before = false

abbrev pub is_started : List SliceletCall → Bool
is_started [] = false
is_started (c ∷ h) = started_after c (is_started h)

-- the life of the last `start` or `resume`, 0 where there was none
abbrev pub life_after : SliceletCall → ℕ → ℕ
life_after (Start life at) before = life
life_after (Hear grant at) before = before
life_after (Release kind at) before = before
life_after (Resume life) before = life

abbrev pub life_of : List SliceletCall → ℕ
life_of [] = 0
life_of (c ∷ h) = life_after c (life_of h)

-- the life of the last `resume`, which is not below those of earlier processes; 0 where there was none
abbrev pub resumed_after : SliceletCall → ℕ → ℕ
resumed_after (Start life at) before = before
resumed_after (Hear grant at) before = before
resumed_after (Release kind at) before = before
resumed_after (Resume life) before = life

abbrev pub resumed_of : List SliceletCall → ℕ
resumed_of [] = 0
resumed_of (c ∷ h) = resumed_after c (resumed_of h)

-- a life ends
abbrev pub ends_life : SliceletCall → Bool
ends_life (Start life at) = true
ends_life (Hear grant at) = false
ends_life (Release kind at) = false
ends_life (Resume life) = true

-- the calls since the last `start` or `resume`
abbrev pub this_life : List SliceletCall → List SliceletCall
this_life [] = []
this_life (c ∷ h) = if ends_life c then [] else c ∷ this_life h

-- a call is about leases of a kind
abbrev pub is_about : Kind → SliceletCall → Bool
is_about kind (Start life at) = false
is_about kind (Hear grant at) = same_kind grant.lease.kind kind
is_about kind (Release other at) = same_kind other kind
is_about kind (Resume life) = false

-- the grant of a `hear`
abbrev pub heard_by : Option SliceletCall → Option Grant
heard_by (Some (Hear grant at)) = Some grant
heard_by _ = None

-- the held lease of a kind: the last call about the kind in this life is the `hear` of this grant
abbrev pub held_grant : Kind → List SliceletCall → Option Grant
held_grant kind h = heard_by (find (is_about kind) (this_life h))

-- the number of a grant that a call heard of a kind
abbrev pub number_heard : Kind → SliceletCall → Option ℕ
number_heard kind (Start life at) = None
number_heard kind (Hear grant at) = if same_kind grant.lease.kind kind then Some grant.number else None
number_heard kind (Release other at) = None
number_heard kind (Resume life) = None

-- the greatest number that calls heard of a kind
abbrev pub greatest_among : Kind → List SliceletCall → Option ℕ
greatest_among kind [] = None
greatest_among kind (c ∷ h) = greatest (number_heard kind c) (greatest_among kind h)

-- the greatest number heard of a kind in this life; a `release` leaves it
abbrev pub greatest_heard : Kind → List SliceletCall → Option ℕ
greatest_heard kind h = greatest_among kind (this_life h)
