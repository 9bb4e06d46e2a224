-- A grant by numbers.
use Rattle.std.specs.Prelude.{◌≡◌, ℕ, List, codes, Option, Result}
use Rattle.grants.specs.declared.values.Grant.{Grant}
use Rattle.wire.specs.Grants.{grant_of}
use Rattle.wire.specs.declared.fault.DecodeError.{DecodeError}
use Rattle.c_calls.specs.declared.answer.Answer.{Answer}
use Rattle.c_calls.specs.declared.grant_numbers.GrantNumbers.{GrantNumbers}
use Rattle.c_calls.specs.Arguments.{InForm}
use Rattle.c_calls.specs.Details.{kind_number}
use Rattle.c_calls.specs.Outputs.{IsGivenWhole, Output}
use Rattle.c_calls.specs.Reading.{IsReadFrom, OnRead}

-- the numbers of a grant
abbrev pub grant_numbers : Grant → GrantNumbers
grant_numbers grant = record {
  number = grant.number;
  task = grant.task;
  life = grant.life;
  kind = kind_number grant.lease.kind;
  generation = grant.lease.generation;
  ends = grant.lease.ends;
  table_ends = grant.table_ends;
}

-- its numbers are told, and the keys at which its ranges begin and end are given, where there is room for them
abbrev pub IsGrantTold : GrantNumbers → GrantNumbers → Output ℕ → Output ℕ → Answer → Result Grant DecodeError → Type 0
IsGrantTold old new was now answer =
    OnRead ((new ≡ old) × (now ≡ was)) answer (λ grant. (new ≡ grant_numbers grant) × IsGivenWhole grant.lease.ranges was now answer)

-- the bytes are read as a grant of the job
abbrev pub IsGrantRead : Option (List ℕ) → List ℕ → GrantNumbers → GrantNumbers → Output ℕ → Output ℕ → Answer → Type 0
IsGrantRead job bytes old new was now answer =
    InForm job ((new ≡ old) × (now ≡ was)) answer (λ job. IsReadFrom job (codes "grant") grant_of bytes (IsGrantTold old new was now answer))
