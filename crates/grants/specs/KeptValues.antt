-- The values of a table that outlast its process: which are a table's, and which are ahead of its own.
use Rattle.std.specs.Prelude.{if◌then◌else◌, ◌≡◌, ℕ, ◌<◌, ◌≤◌, ◌⊎◌, max, ◌+◌, ◌==◌, ◌&&◌, ◌||◌, Bool, true, not, nat_lt, nat_le, List, [], ◌∷◌, length, Option, Some, None, is_some, is_none}
use Rattle.std.specs.List.{list_any}
use Rattle.machines.specs.Numbers.{is_within}
use Rattle.machines.specs.Refusals.{when}
use Rattle.assignment.specs.Slices.{Slicing}
use Rattle.grants.specs.declared.kept.Kept.{Kept}
use Rattle.grants.specs.declared.kept.KeptFault.{KeptFault}
use Rattle.grants.specs.declared.kept.KeptFault.TheVariants.{OtherPolicy, ReadingRange, NoTerm, TermRange, Generation, TooManyOwnersForJob, NoAssignment, TooManyGrants, DeadlineRange}
use Rattle.grants.specs.declared.policy.TheConstants.{READINGS}
use Rattle.grants.specs.declared.values.JobTerm.{JobTerm}
use Rattle.grants.specs.Assignments.{generation_of, slices_of}
use Rattle.grants.specs.Policies.{Terms}

-- the longer of the terms of task leases
abbrev pub longest_term : Terms → ℕ
longest_term policy = max policy.guard policy.bridge

-- two policies are the same
abbrev pub same_terms : Terms → Terms → Bool
same_terms a b =
    a.low == b.low && a.high == b.high && a.skew == b.skew && a.guard == b.guard && a.bridge == b.bridge && a.job == b.job && a.numbers == b.numbers

-- an assignment is committed or proposed
abbrev pub has_assignment : Kept → Bool
has_assignment k = is_some k.committed || is_some k.pending

-- a term has a number from 1 up to its end, which is at most a job term after the last reading
abbrev pub is_term : ℕ → ℕ → Option JobTerm → Bool
is_term last job None = true
is_term last job (Some term) = is_within term.number term.until && nat_le term.until (last + job)

-- the committed generation is 1 or more, and the proposed one is the next
abbrev pub is_committed : Option Slicing → Bool
is_committed None = true
is_committed (Some slicing) = nat_le 1 slicing.generation

abbrev pub is_next : ℕ → Option Slicing → Bool
is_next generation None = true
is_next generation (Some slicing) = slicing.generation == generation + 1

-- a slice has more owners than the job allows
abbrev pub has_many_owners : ℕ → Option Slicing → Bool
has_many_owners high slicing = list_any (λ s. nat_lt high (length s.owners)) (slices_of slicing)

-- there is a deadline exactly if grants were made, and it is not after the latest one
abbrev pub is_deadline : ℕ → ℕ → ℕ → Bool
is_deadline latest granted deadline = if granted == 0 then deadline == 0 else is_within deadline latest

-- why kept values are those of no table of this policy: the greatest deadline is at most the longest
-- term of a task lease after the last reading
abbrev pub kept_checks : Terms → Kept → List (Option KeptFault)
kept_checks policy k =
    when (not (same_terms k.policy policy)) OtherPolicy ∷
    when (nat_le READINGS k.last) ReadingRange ∷
    when (is_none k.term && has_assignment k) NoTerm ∷
    when (not (is_term k.last k.policy.job k.term)) TermRange ∷
    when (not (is_committed k.committed && is_next (generation_of k.committed) k.pending)) Generation ∷
    when (has_many_owners k.policy.high k.committed || has_many_owners k.policy.high k.pending) TooManyOwnersForJob ∷
    when (nat_lt 0 k.granted && not (has_assignment k)) NoAssignment ∷
    when (nat_lt k.policy.numbers k.granted) TooManyGrants ∷
    when (not (is_deadline (k.last + longest_term k.policy) k.granted k.deadline)) DeadlineRange ∷ []

-- SAVED AHEAD

-- a grant is possible at the last reading
abbrev pub can_grant : Kept → Bool
can_grant k = has_assignment k && nat_lt k.last READINGS && nat_lt k.granted k.policy.numbers

-- how long a lease of the phase lasts
abbrev pub lease_term : Terms → Option Slicing → ℕ
lease_term policy None = policy.guard
lease_term policy (Some next) = policy.bridge

-- values ahead of a table: those that it would keep after more grants at a later reading, if nothing else happened
pub record IsAhead (now saved : Kept) : Type 0 where
  pub same : saved ≡ record now { last = saved.last; granted = saved.granted; deadline = max now.deadline (saved.last + lease_term now.policy now.pending) }
  pub later : now.last ≤ saved.last
  pub range : saved.last < READINGS
  pub more : now.granted < saved.granted
  pub spare : saved.granted ≤ now.policy.numbers
  pub assigned : has_assignment now ≡ true

-- the saved values are the kept values, or values ahead of them
abbrev pub Covers : Kept → Kept → Type 0
Covers now saved = (saved ≡ now) ⊎ IsAhead now saved
