-- The kept values of a table as JSON.
use Rattle.std.specs.Prelude.{ℕ, List, [], ◌∷◌, codes, Option, Some, None, Result, Ok, is_some, if◌then◌else◌}
use Rattle.serde_json.specs.Data.{Data, null}
use Rattle.serde_json.specs.Find.{as_null}
use Rattle.grants.specs.declared.kept.Kept.{Kept}
use Rattle.grants.specs.declared.values.JobTerm.{JobTerm}
use Rattle.grants.specs.Policies.{Terms, is_policy, terms}
use Rattle.program_io.specs.declared.fault.WrongForm.{WrongForm}
use Rattle.program_io.specs.Reading.{◌>>=◌, ◌>>◌, check}
use Rattle.program_io.specs.Members.{wrong, exactly, member_at, number_at, two_numbers_of}
use Rattle.wire.specs.declared.fault.DecodeRefusal.{DecodeRefusal}
use Rattle.wire.specs.declared.numerals.Numerals.{Numerals}
use Rattle.wire.specs.Assignments.{assignment_data, assignment_of}
use Rattle.wire.specs.Numerals.{numeral_at, numeral_data}
use Rattle.wire.specs.Objects.{list_data, number_data, object_data}
use Rattle.wire.specs.Refusals.{or_wrong}

-- a value, or null where there is none
abbrev pub or_null : {A : Type 0} → (A → Data) → Option A → Data
or_null write None = null
or_null write (Some x) = write x

-- no value where null is written, or else what is read
abbrev pub unless_null : {A E : Type 0} → (Data → Result A E) → Data → Result (Option A) E
unless_null read d = if is_some (as_null d) then Ok None else (read d >>= λ x. Ok (Some x))

-- `{"bridge":B,"guard":G,"job":J,"numbers":N,"redundancy":[LOW,HIGH],"skew":S}`
abbrev pub policy_data : Terms → Data
policy_data t = object_data
    ((codes "bridge", number_data t.bridge) ∷
    (codes "guard", number_data t.guard) ∷
    (codes "job", number_data t.job) ∷
    (codes "numbers", number_data t.numbers) ∷
    (codes "redundancy", list_data number_data (t.low ∷ t.high ∷ [])) ∷
    (codes "skew", number_data t.skew) ∷ [])

-- the terms, if they are within the limits of a policy
abbrev pub policy_from : Terms → Result Terms WrongForm
policy_from t = do
  check (is_policy t) wrong
  Ok t

-- a policy has the members of a job that concern the table
unfoldable pub policy_of : Data → Result Terms WrongForm
policy_of d = do
  exactly (codes "bridge" ∷ codes "guard" ∷ codes "job" ∷ codes "numbers" ∷ codes "redundancy" ∷ codes "skew" ∷ []) d
  owners ← member_at (codes "redundancy") d >>= two_numbers_of
  skew ← number_at (codes "skew") d
  guard ← number_at (codes "guard") d
  bridge ← number_at (codes "bridge") d
  job ← number_at (codes "job") d
  numbers ← number_at (codes "numbers") d
  policy_from (terms owners.0 owners.1 skew guard bridge job numbers)

-- `{"assigner":A,"number":N,"until":U}`
abbrev pub job_term_data : Numerals → JobTerm → Data
job_term_data numerals term = object_data
    ((codes "assigner", numeral_data numerals term.assigner) ∷
    (codes "number", numeral_data numerals term.number) ∷
    (codes "until", numeral_data numerals term.until) ∷ [])

-- a term of the job lease has a number, an assigner and an end
unfoldable pub job_term_of : Numerals → Data → Result JobTerm WrongForm
job_term_of numerals d = do
  exactly (codes "assigner" ∷ codes "number" ∷ codes "until" ∷ []) d
  number ← numeral_at numerals (codes "number") d
  assigner ← numeral_at numerals (codes "assigner") d
  until ← numeral_at numerals (codes "until") d
  Ok (record { number = number; assigner = assigner; until = until })

-- `{"committed":ASSIGNMENT,"deadline":D,"granted":G,"last":L,"pending":ASSIGNMENT,"policy":POLICY,"term":TERM}`
abbrev pub kept_data : Numerals → Kept → Data
kept_data numerals kept = object_data
    ((codes "committed", or_null (assignment_data numerals) kept.committed) ∷
    (codes "deadline", numeral_data numerals kept.deadline) ∷
    (codes "granted", numeral_data numerals kept.granted) ∷
    (codes "last", numeral_data numerals kept.last) ∷
    (codes "pending", or_null (assignment_data numerals) kept.pending) ∷
    (codes "policy", policy_data kept.policy) ∷
    (codes "term", or_null (job_term_data numerals) kept.term) ∷ [])

-- the member of this name, as a term of the job lease or null
abbrev pub term_or_null_at : Numerals → List ℕ → Data → Result (Option JobTerm) WrongForm
term_or_null_at numerals name d = member_at name d >>= unless_null (job_term_of numerals)

-- kept values have a policy, the last reading, a term, two assignments, and what was granted; each of the term and
-- the assignments may be null
unfoldable pub kept_of : Numerals → Data → Result Kept DecodeRefusal
kept_of numerals d = do
  or_wrong (exactly (codes "committed" ∷ codes "deadline" ∷ codes "granted" ∷ codes "last" ∷ codes "pending" ∷ codes "policy" ∷ codes "term" ∷ []) d)
  policy ← or_wrong (member_at (codes "policy") d >>= policy_of)
  last ← or_wrong (numeral_at numerals (codes "last") d)
  term ← or_wrong (term_or_null_at numerals (codes "term") d)
  granted ← or_wrong (numeral_at numerals (codes "granted") d)
  deadline ← or_wrong (numeral_at numerals (codes "deadline") d)
  committed ← or_wrong (member_at (codes "committed") d) >>= unless_null (assignment_of numerals)
  pending ← or_wrong (member_at (codes "pending") d) >>= unless_null (assignment_of numerals)
  Ok (record { policy = policy; last = last; term = term; committed = committed; pending = pending; granted = granted; deadline = deadline })
