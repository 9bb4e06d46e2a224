-- What is answered of a lease that a task holds.
use Rattle.std.specs.Prelude.{◌≡◌, ℕ, Some}
use Rattle.lease_rule.specs.declared.lease.Kind.{Kind}
use Rattle.lease_rule.specs.declared.answer.Verdict.{Verdict}
use Rattle.lease_rule.specs.declared.answer.Verdict.TheVariants.{Allow, Deny}
use Rattle.grants.specs.declared.values.Grant.{Grant}
use Rattle.slicelet.specs.States.{SliceletState, held_in}
use Rattle.c_calls.specs.declared.answer.Answer.{Answer}
use Rattle.c_calls.specs.declared.answer.Answer.TheVariants.{Leased, Denied}
use Rattle.c_calls.specs.declared.details.LeaseDetails.{LeaseDetails}

-- the lease of a grant, as it is told
abbrev pub details_of : Grant → LeaseDetails
details_of grant = record { kind = grant.lease.kind; number = grant.number; generation = grant.lease.generation; until = grant.lease.ends }

-- the lease that is held of this kind is of this generation
pub record Holds (s : SliceletState) (kind : Kind) (generation : ℕ) : Type 0 where
  pub grant : Grant
  pub held : held_in s kind ≡ Some grant
  pub of_kind : grant.lease.kind ≡ kind
  pub of_generation : grant.lease.generation ≡ generation

-- it is told
pub record IsHeldAs (s : SliceletState) (kind : Kind) (generation : ℕ) (lease : LeaseDetails) : Type 0 where
  pub holds : Holds s kind generation
  pub is : lease ≡ details_of holds.grant

-- the lease under which the verdict allows the key is told
pub record IsAllowed (s : SliceletState) (kind : Kind) (generation : ℕ) (answer : Answer) : Type 0 where
  pub lease : LeaseDetails
  pub held : IsHeldAs s kind generation lease
  pub is : answer ≡ Leased lease

-- the same; or why the key is denied
abbrev pub IsServed : Verdict → SliceletState → Answer → Type 0
IsServed (Allow kind generation) s answer = IsAllowed s kind generation answer
IsServed (Deny why) s answer = answer ≡ Denied why
