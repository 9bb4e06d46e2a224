-- What is returned of a grant that may show that clocks are not timely.
use Rattle.std.specs.Prelude.{◌≡◌, ℕ, List, codes, Bool, true, false, Option, Result, ◌↔◌}
use Rattle.grants.specs.declared.values.Grant.{Grant}
use Rattle.grants.specs.Policies.{Terms, is_policy}
use Rattle.wire.specs.Grants.{grant_of}
use Rattle.wire.specs.declared.fault.DecodeError.{DecodeError}
use Rattle.c_calls.specs.declared.answer.Answer.{Answer}
use Rattle.c_calls.specs.declared.answer.Answer.TheVariants.{Done, WrongForm}
use Rattle.c_calls.specs.Arguments.{InForm}
use Rattle.c_calls.specs.Reading.{IsReadFrom, OnRead}
use Rattle.c_calls.specs.declared.policy_numbers.PolicyNumbers.{PolicyNumbers}
use Rattle.c_calls.specs.PolicyNumbers.{terms_of}
use Rattle.grant_evidence.specs.Evidence.{IsAhead}

-- 1 is written if the grant was sent ahead of the reading, else 0
pub record IsWeight (policy : Terms) (grant : Grant) (at out : ℕ) : Type 0 where
  pub ahead : (out ≡ 1) ↔ IsAhead policy grant at
  pub none : (out ≡ 0) ↔ (IsAhead policy grant at → ⊥)

-- a grant that was read is weighed
abbrev pub IsWeighedAs : Terms → ℕ → ℕ → ℕ → Answer → Result Grant DecodeError → Type 0
IsWeighedAs policy at was out answer = OnRead (out ≡ was) answer (λ grant. (answer ≡ Done) × IsWeight policy grant at out)

abbrev pub IsWeighedBy : List ℕ → Terms → List ℕ → ℕ → ℕ → ℕ → Answer → Type 0
IsWeighedBy job policy bytes at was out answer = IsReadFrom job (codes "grant") grant_of bytes (IsWeighedAs policy at was out answer)

-- numbers that are no policy change nothing
abbrev pub IsWeighedIn : Bool → List ℕ → Terms → List ℕ → ℕ → ℕ → ℕ → Answer → Type 0
IsWeighedIn true job policy bytes at was out answer = IsWeighedBy job policy bytes at was out answer
IsWeighedIn false job policy bytes at was out answer = (answer ≡ WrongForm) × (out ≡ was)

abbrev pub IsWeighedFor : Option (List ℕ) → List ℕ → ℕ → PolicyNumbers → ℕ → ℕ → Answer → Type 0
IsWeighedFor job bytes at numbers was out answer = InForm job (out ≡ was) answer
    (λ job. IsWeighedIn (is_policy (terms_of numbers)) job (terms_of numbers) bytes at was out answer)
