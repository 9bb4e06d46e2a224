-- The term of the job lease that an assigner keeps.
use Rattle.std.specs.Prelude.{◌≡◌, ℕ, ◌==◌, ◌&&◌, ◌||◌, Bool, true, false, nat_lt, List, [], ◌∷◌, Contains, Option, Some, None, if◌then◌else◌}
use Rattle.std.specs.List.{AllByRecursion}
use Rattle.grants.specs.declared.values.JobTerm.{JobTerm}

-- an assigner: its number, how many ticks a job lease lasts, and the term that it keeps
pub record Keeping : Type 0 where
  pub id : ℕ
  pub job_term : ℕ
  pub term : Option JobTerm

-- an assigner before its first call
abbrev pub opening : ℕ → ℕ → Keeping
opening id job_term = record { id = id; job_term = job_term; term = None }

-- a term is above another in the order of pairs of number and end
abbrev pub is_above : JobTerm → JobTerm → Bool
is_above term other = nat_lt other.number term.number || (other.number == term.number && nat_lt other.until term.until)

abbrev pub is_above_kept : JobTerm → Option JobTerm → Bool
is_above_kept term None = true
is_above_kept term (Some kept) = is_above term kept

-- an assigner adopts a term of its own that is above the one that it keeps
abbrev pub is_adopted : ℕ → JobTerm → Option JobTerm → Bool
is_adopted id term kept = term.assigner == id && is_above_kept term kept

-- the term that it keeps after a term was offered to it
abbrev pub adopted_term : ℕ → JobTerm → Option JobTerm → Option JobTerm
adopted_term id term kept = if is_adopted id term kept then Some term else kept

-- a call of an assigner: a term is offered to it, or it drops the term that it keeps
pub data Call : Type 0 where
  Offer : JobTerm → Call
  DropTerm : Call

-- the term that it keeps after these calls, the last one first
abbrev pub kept_with : ℕ → Call → Option JobTerm → Option JobTerm
kept_with id (Offer term) kept = adopted_term id term kept
kept_with id DropTerm kept = None

abbrev pub kept_after : ℕ → List Call → Option JobTerm
kept_after id [] = None
kept_after id (call ∷ calls) = kept_with id call (kept_after id calls)

-- its own terms that were offered to it since it last dropped one, the last one first
abbrev pub offered_with : ℕ → Call → List JobTerm → List JobTerm
offered_with id (Offer term) before = if term.assigner == id then term ∷ before else before
offered_with id DropTerm before = []

abbrev pub offered_since_drop : ℕ → List Call → List JobTerm
offered_since_drop id [] = []
offered_since_drop id (call ∷ calls) = offered_with id call (offered_since_drop id calls)

-- what is kept of some terms is the greatest: one of them that none of them is above; and nothing where there are none
abbrev pub IsGreatest : List JobTerm → Option JobTerm → Type 0
IsGreatest terms None = terms ≡ []
IsGreatest terms (Some term) = Contains terms term × AllByRecursion (λ other. is_above other term ≡ false) terms
