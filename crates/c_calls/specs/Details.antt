-- The numbers that an answer carries. What it does not carry stays what it was.
use Rattle.std.specs.Prelude.{ℕ, Option, Some, None}
use Rattle.lease_rule.specs.declared.lease.Kind.{Kind}
use Rattle.lease_rule.specs.declared.lease.Kind.TheVariants.{Guard, Bridge}
use Rattle.lease_rule.specs.declared.answer.Ground.{Ground}
use Rattle.lease_rule.specs.declared.answer.Ground.TheVariants.{NotOwned}
use Rattle.grants.specs.declared.slicelet_error.SliceletError.{SliceletError}
use Rattle.grants.specs.declared.slicelet_error.SliceletError.TheVariants.{Old}
use Rattle.grants.specs.declared.table_error.TableError.{TableError}
use Rattle.grants.specs.declared.table_error.TableError.TheVariants.{JobHeld, NotHolder, StaleBase, Grace, Held}
use Rattle.wire.specs.declared.fault.DecodeRefusal.TheVariants.{Version}
use Rattle.c_calls.specs.declared.answer.Answer.{Answer}
use Rattle.c_calls.specs.declared.answer.Answer.TheVariants.{Leased, Denied, Slicelet, Committed, Table, OldGeneration, Unread}
use Rattle.c_calls.specs.declared.details.LeaseDetails.{LeaseDetails}
use Rattle.c_calls.specs.declared.details.AnswerDetails.{AnswerDetails}

-- the number of a kind of lease
abbrev pub kind_number : Kind → ℕ
kind_number Guard = 1
kind_number Bridge = 2

-- a lease tells its kind, its number, its generation and its deadline
abbrev pub lease_details : LeaseDetails → AnswerDetails → AnswerDetails
lease_details lease was =
    record was { number = lease.number; generation = lease.generation; kind = kind_number lease.kind; until = lease.until }

-- a ground tells the greatest generation of a live lease
abbrev pub ground_details : Ground → AnswerDetails → AnswerDetails
ground_details (NotOwned generation) was = record was { generation = generation }
ground_details _ was = was

-- a refusal of a slicelet tells the greatest number heard
abbrev pub slicelet_details : SliceletError → AnswerDetails → AnswerDetails
slicelet_details (Old heard) was = record was { number = heard }
slicelet_details _ was = was

-- a refusal of a table tells until when, which term or generation stands, or the lease that is held
abbrev pub table_details : TableError → AnswerDetails → AnswerDetails
table_details (JobHeld until) was = record was { until = until }
table_details (NotHolder term) was = record was { number = term }
table_details (StaleBase generation) was = record was { generation = generation }
table_details (Grace until) was = record was { until = until }
table_details (Held task kind number) was = record was { task = task; kind = kind_number kind; number = number }
table_details _ was = was

-- a lease that was heard, or under which a key may be served, is told; a message of another version tells its version
abbrev pub answer_details : Answer → AnswerDetails → AnswerDetails
answer_details (Leased lease) was = lease_details lease was
answer_details (Denied why) was = ground_details why was
answer_details (Slicelet why) was = slicelet_details why was
answer_details (Committed generation) was = record was { generation = generation }
answer_details (Table why) was = table_details why was
answer_details (OldGeneration generation) was = record was { generation = generation }
answer_details (Unread (Version version)) was = record was { number = version }
answer_details _ was = was

-- the number of the greatest generation that covers a key: 0 where no held lease covers it
abbrev pub covering_number : Option ℕ → ℕ
covering_number None = 0
covering_number (Some generation) = generation

-- the greatest generation that covers the key is told, whether or not the key may be served
abbrev pub covering_details : Option ℕ → AnswerDetails → AnswerDetails
covering_details newest was = record was { covering = covering_number newest }
