-- The values that decide a reply.
use Rattle.std.specs.Prelude.{ℕ, List, [], ◌∷◌, ◌++◌, codes, Option, Some, None, option_map}
use Rattle.serde_json.specs.Data.{Data, string}
use Rattle.grants.specs.declared.values.JobTerm.{JobTerm}
use Rattle.grants.specs.declared.values.Row.{Row}
use Rattle.lease_rule.specs.declared.lease.Kind.{Kind}
use Rattle.lease_rule.specs.declared.answer.Ground.{Ground}
use Rattle.lease_rule.specs.declared.answer.Ground.TheVariants as grounds
use Rattle.wire.specs.declared.numerals.Numerals.TheVariants.{Quoted}
use Rattle.wire.specs.Kept.{job_term_data}
use Rattle.wire.specs.LeaseMembers.{kind_data}
use Rattle.wire.specs.Objects.{number_data, object_data}
use Rattle.wire.specs.Rows.{row_data}
use Rattle.reasons.specs.declared.reason.Break.{Break}
use Rattle.reasons.specs.declared.reason.Break.TheVariants.{OtherLife, Denied, Taken}
use Rattle.reasons.specs.declared.reason.Reason.{Reason}
use Rattle.reasons.specs.declared.reason.Reason.TheVariants as why
use Rattle.reason_values.specs.declared.place.LogLine.{LogLine}
use Rattle.reply_values.specs.Values.{large_data}
use Rattle.reason_values.specs.Members.{if_there}
use Rattle.reason_values.specs.Places.{place_data}
use Rattle.reason_values.specs.Requests.{owners_data, request_data, rule_data}

-- the word for why the written rule denies a key
abbrev pub ground_word : Ground → List ℕ
ground_word grounds.Down = codes "down"
ground_word grounds.ClockBack = codes "clock-back"
ground_word grounds.Ended = codes "ended"
ground_word (grounds.NotOwned generation) = codes "not-owned"
ground_word grounds.NoLease = codes "no-lease"

-- BROKEN HANDLES

-- the first and the last call that take a key from a handle, where there are such
abbrev pub taken_data : List LogLine → Option ℕ → Option ℕ → Data
taken_data lines first last = object_data
    (if_there (codes "first") (option_map (place_data lines) first) ++ if_there (codes "last") (option_map (place_data lines) last))

-- the first call of logs that takes the key, where one is known
abbrev pub first_taken : List LogLine → Option ℕ → Option Data
first_taken lines first = option_map (λ call. taken_data lines (Some call) None) first

-- why a handle is broken: the life of its task; the word of a denial and its values; or the last call that takes its key
abbrev pub break_data : List LogLine → Option ℕ → Break → Data
break_data lines first (OtherLife life) = object_data
    ((codes "life", number_data life) ∷ if_there (codes "taken") (first_taken lines first))
break_data lines first (Denied denial request) = object_data
    ((codes "denied", string (ground_word denial)) ∷ (codes "owners", owners_data request.owners) ∷ (codes "rule", rule_data lines request.rule)
    ∷ if_there (codes "taken") (first_taken lines first))
break_data lines first (Taken call last) = object_data ((codes "taken", taken_data lines first last) ∷ [])

-- REASONS

-- the last accepted reading of a clock
abbrev pub last_data : ℕ → Data
last_data last = object_data ((codes "last", large_data last) ∷ [])

-- the row that holds a commit up
abbrev pub held_data : Row → Data
held_data row = object_data ((codes "row", row_data Quoted row) ∷ [])

-- the last term that the table gave
abbrev pub term_data : JobTerm → Data
term_data term = object_data ((codes "term", job_term_data Quoted term) ∷ [])

-- the life of the task
abbrev pub life_data : ℕ → Data
life_data life = object_data ((codes "life", number_data life) ∷ [])

-- the greatest number of a kind of grant that the task heard in its life
abbrev pub heard_data : Kind → ℕ → ℕ → Data
heard_data kind number life = object_data
    ((codes "heard", object_data ((codes "kind", kind_data kind) ∷ (codes "number", large_data number) ∷ [])) ∷ (codes "life", number_data life) ∷ [])

-- a reason, where a broken handle also has the first call that takes its key; none if the table gave no term: the reply says that
abbrev pub reason_data : List LogLine → Option ℕ → Reason → Option Data
reason_data lines first (why.Request reason) = Some (request_data lines reason)
reason_data lines first (why.Broken broken) = Some (break_data lines first broken)
reason_data lines first (why.TableReading last) = Some (last_data last)
reason_data lines first (why.TaskReading last) = Some (last_data last)
reason_data lines first (why.Held row) = Some (held_data row)
reason_data lines first (why.Term term) = option_map term_data term
reason_data lines first (why.Heard kind number life) = Some (heard_data kind number life)
reason_data lines first (why.Life life) = Some (life_data life)
