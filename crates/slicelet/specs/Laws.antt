-- What holds after every list of accepted calls.
use Rattle.std.specs.Prelude.{◌≡◌, ℕ, ◌<◌, ◌≤◌, Bool, true, List, ◌∷◌, ◌++◌, Option, Some, None, ⊤}
use Rattle.std.specs.List.{AllByRecursion}
use Rattle.lease_rule.specs.declared.lease.Kind.{Kind}
use Rattle.grants.specs.declared.values.Grant.{Grant}
use Rattle.grants.specs.declared.values.ReleaseNote.{ReleaseNote}
use Rattle.grants.specs.declared.slicelet_call.SliceletCall.{SliceletCall}
use Rattle.grants.specs.declared.slicelet_call.SliceletCall.TheVariants.{Start, Hear, Release, Resume}
use Rattle.slicelet.specs.Calls.{life_of, is_started, held_grant, greatest_heard}
use Rattle.slicelet.specs.Accepted.{notes_sent}

-- a held lease was granted to this task in its current life, is of its kind, and its number is the greatest heard
pub record IsOwn (task : ℕ) (h : List SliceletCall) (kind : Kind) (grant : Grant) : Type 0 where
  pub of_task : grant.task ≡ task
  pub of_life : grant.life ≡ life_of h
  pub of_kind : grant.lease.kind ≡ kind
  pub greatest : greatest_heard kind h ≡ Some grant.number

-- a number is at most the greatest of those heard
abbrev pub IsUpTo : ℕ → Option ℕ → Type 0
IsUpTo number None = ⊥
IsUpTo number (Some greatest) = number ≤ greatest

-- a note is of the current life or an earlier one; while the current life runs, its number was heard, and a lease that is held of its kind has a
-- greater one
pub record IsSpent (h : List SliceletCall) (note : ReleaseNote) : Type 0 where
  pub of_life : note.life ≤ life_of h
  pub heard : note.life ≡ life_of h → is_started h ≡ true → IsUpTo note.number (greatest_heard note.kind h)
  pub newer : note.life ≡ life_of h → (grant : Grant) → held_grant note.kind h ≡ Some grant → note.number < grant.number

-- each held lease is the task's own, and each note that it sent is spent
pub record HoldsOwnLeases (task : ℕ) (h : List SliceletCall) : Type 0 where
  pub own : (kind : Kind) (grant : Grant) → held_grant kind h ≡ Some grant → IsOwn task h kind grant
  pub spent : AllByRecursion (IsSpent h) (notes_sent task h)

-- a grant of a note's kind and life has a greater number
abbrev pub IsAbove : Grant → ReleaseNote → Type 0
IsAbove grant note = note.kind ≡ grant.lease.kind → note.life ≡ grant.life → note.number < grant.number

-- a key is allowed at a reading by the lease that is held of a kind: it is live, covers the key and is of this generation
pub record HasCoveringLease (covers : Grant → Bool) (h : List SliceletCall) (at : ℕ) (kind : Kind) (generation : ℕ) : Type 0 where
  pub grant : Grant
  pub is_held : held_grant kind h ≡ Some grant
  pub live : at < grant.lease.ends
  pub covered : covers grant ≡ true
  pub told : grant.lease.generation ≡ generation

-- one of these calls, between later ones and those before it, heard the grant
pub record WasHeard (h : List SliceletCall) (grant : Grant) : Type 0 where
  pub at : ℕ
  pub later : List SliceletCall
  pub before : List SliceletCall
  pub parts : h ≡ later ++ Hear grant at ∷ before

-- two tests agree on the grant that a call hears
abbrev pub AgreeOnCall : (Grant → Bool) → (Grant → Bool) → SliceletCall → Type 0
AgreeOnCall covers other (Start life at) = ⊤
AgreeOnCall covers other (Hear grant at) = covers grant ≡ other grant
AgreeOnCall covers other (Release kind at) = ⊤
AgreeOnCall covers other (Resume life) = ⊤

-- two tests agree on every grant that these calls heard
abbrev pub AgreeOnHeard : (Grant → Bool) → (Grant → Bool) → List SliceletCall → Type 0
AgreeOnHeard covers other h = AllByRecursion (AgreeOnCall covers other) h
