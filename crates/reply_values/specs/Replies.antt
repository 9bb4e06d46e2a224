-- Replies: the first word of the line, and each thing that the line names under a name of its own.
use Rattle.std.specs.Prelude.{ℕ, List, [], ◌∷◌, codes, Option, Some, None}
use Rattle.serde_json.specs.Data.{Data, string}
use Rattle.lease_rule.specs.declared.answer.Ground.{Ground}
use Rattle.lease_rule.specs.declared.answer.Ground.TheVariants.{NotOwned}
use Rattle.lease_rule.specs.declared.answer.Verdict.{Verdict}
use Rattle.lease_rule.specs.declared.answer.Verdict.TheVariants.{Allow, Deny}
use Rattle.grants.specs.declared.values.JobTerm.{JobTerm}
use Rattle.grants.specs.declared.values.Phase.{Phase}
use Rattle.grants.specs.declared.values.Phase.TheVariants.{Steady, Bridging}
use Rattle.grants.specs.declared.values.Grant.{Grant}
use Rattle.grants.specs.declared.values.ReleaseNote.{ReleaseNote}
use Rattle.key_handle.specs.declared.handle.KeyHandle.{KeyHandle}
use Rattle.weighted_move.specs.declared.moves.Move.{Move}
use Rattle.replies.specs.declared.reply.Reply.{Reply}
use Rattle.replies.specs.declared.reply.Reply.TheVariants as reply
use Rattle.replies.specs.Lines.{action_word, ground_words, hex_16}
use Rattle.wire.specs.declared.numerals.Numerals.TheVariants.{Quoted}
use Rattle.wire.specs.Assignments.{slice_data}
use Rattle.wire.specs.LeaseMembers.{kind_data}
use Rattle.wire.specs.Objects.{list_data, number_data, object_data}
use Rattle.wire.specs.Rows.{row_data}
use Rattle.reply_values.specs.Refusals.{refusal_data}
use Rattle.reply_values.specs.Values.{large_data, plain_data}

-- a reply of this name with a generation, or with a number of rows
abbrev pub generation_data : List ℕ → ℕ → Data
generation_data name generation = object_data ((codes "generation", large_data generation) ∷ (codes "reply", string name) ∷ [])

abbrev pub row_count_data : List ℕ → ℕ → Data
row_count_data name rows = object_data ((codes "reply", string name) ∷ (codes "rows", number_data rows) ∷ [])

-- a denial
abbrev pub denied_data : Ground → Data
denied_data (NotOwned generation) = object_data ((codes "denied", string (codes "not-owned")) ∷ (codes "generation", large_data generation) ∷ [])
denied_data why = object_data ((codes "denied", string (ground_words why)) ∷ [])

-- a verdict
abbrev pub verdict_data : Verdict → Data
verdict_data (Allow kind generation) = object_data
    ((codes "generation", large_data generation) ∷ (codes "kind", kind_data kind) ∷ (codes "reply", string (codes "served")) ∷ [])
verdict_data (Deny why) = denied_data why

-- a term of the job lease, taken or renewed
abbrev pub term_data : List ℕ → JobTerm → Data
term_data name term = object_data
    ((codes "number", large_data term.number) ∷ (codes "reply", string name) ∷ (codes "until", large_data term.until) ∷ [])

-- the phase of the table
abbrev pub phase_data : Phase → Data
phase_data (Steady generation) = object_data
    ((codes "generation", large_data generation) ∷ (codes "phase", string (codes "steady")) ∷ (codes "reply", string (codes "phase")) ∷ [])
phase_data (Bridging from to) = object_data
    ((codes "from", large_data from) ∷ (codes "phase", string (codes "bridging")) ∷ (codes "reply", string (codes "phase")) ∷ (codes "to", large_data to) ∷ [])

-- a grant: `until` is the table's deadline, and `ends` the task's
abbrev pub granted_data : Grant → Data
granted_data grant = object_data
    ((codes "ends", large_data grant.lease.ends) ∷ (codes "generation", large_data grant.lease.generation) ∷ (codes "kind", kind_data grant.lease.kind)
    ∷ (codes "number", large_data grant.number) ∷ (codes "reply", string (codes "grant")) ∷ (codes "until", large_data grant.table_ends) ∷ [])

-- a note, by its number among the notes, with its life and the number of its grant
abbrev pub released_data : ℕ → ReleaseNote → Data
released_data number note = object_data
    ((codes "life", number_data note.life) ∷ (codes "note", number_data number) ∷ (codes "number", large_data note.number)
    ∷ (codes "reply", string (codes "released")) ∷ [])

-- a handle, by its number among the handles, with its life and position
abbrev pub holding_data : ℕ → KeyHandle → Data
holding_data number handle = object_data
    ((codes "handle", number_data number) ∷ (codes "life", number_data handle.life) ∷ (codes "position", large_data handle.position)
    ∷ (codes "reply", string (codes "handle")) ∷ [])

-- whom a slice leaves, if it leaves one, and whom it goes to, if it goes to one
abbrev pub owner_change_data : Option ℕ → Option ℕ → Move → Data
owner_change_data (Some giver) (Some taker) move = object_data
    ((codes "churn", large_data move.churn) ∷ (codes "from", number_data giver) ∷ (codes "gain", number_data move.gain)
    ∷ (codes "start", large_data move.start) ∷ (codes "to", number_data taker) ∷ [])
owner_change_data None (Some taker) move = object_data
    ((codes "churn", large_data move.churn) ∷ (codes "gain", number_data move.gain) ∷ (codes "start", large_data move.start)
    ∷ (codes "to", number_data taker) ∷ [])
owner_change_data (Some giver) None move = object_data
    ((codes "churn", large_data move.churn) ∷ (codes "from", number_data giver) ∷ (codes "gain", number_data move.gain)
    ∷ (codes "start", large_data move.start) ∷ [])
owner_change_data None None move = object_data
    ((codes "churn", large_data move.churn) ∷ (codes "gain", number_data move.gain) ∷ (codes "start", large_data move.start) ∷ [])

-- a move; its gain is below 2^53, for loads are up to 2^40 and slices up to 1024
abbrev pub move_data : Move → Data
move_data move = owner_change_data move.giver move.taker move

-- a reply; the last is never written
abbrev pub reply_data : Reply → Data
reply_data (reply.Key key) = object_data ((codes "key", string (hex_16 key)) ∷ (codes "reply", string (codes "key")) ∷ [])
reply_data (reply.Assigned generation slices) = object_data
    ((codes "generation", large_data generation) ∷ (codes "reply", string (codes "assigned")) ∷ (codes "slices", number_data slices) ∷ [])
reply_data (reply.Owners tasks) = object_data ((codes "owners", list_data number_data tasks) ∷ (codes "reply", string (codes "owners")) ∷ [])
reply_data (reply.Verdict verdict) = verdict_data verdict
reply_data (reply.Term term) = term_data (codes "term") term
reply_data (reply.Renewed term) = term_data (codes "renewed") term
reply_data (reply.Proposed generation) = generation_data (codes "proposed") generation
reply_data (reply.Committed generation) = generation_data (codes "committed") generation
reply_data (reply.Phase phase) = phase_data phase
reply_data (reply.Rows rows) = object_data ((codes "reply", string (codes "rows")) ∷ (codes "rows", list_data (row_data Quoted) rows) ∷ [])
reply_data (reply.Granted grant) = granted_data grant
reply_data (reply.Freed rows) = row_count_data (codes "freed") rows
reply_data (reply.Lost rows) = row_count_data (codes "lost") rows
reply_data (reply.Started life) = object_data ((codes "life", number_data life) ∷ (codes "reply", string (codes "started")) ∷ [])
reply_data (reply.Heard number) = object_data ((codes "number", large_data number) ∷ (codes "reply", string (codes "heard")) ∷ [])
reply_data (reply.Released number note) = released_data number note
reply_data (reply.Holding number handle) = holding_data number handle
reply_data reply.Continuous = plain_data (codes "continuous")
reply_data reply.Broken = plain_data (codes "broken")
reply_data (reply.Learnt generation) = generation_data (codes "learnt") generation
reply_data (reply.Found found) = object_data
    ((codes "generation", large_data found.generation) ∷ (codes "owners", list_data number_data found.owners.items) ∷ (codes "reply", string (codes "found")) ∷ [])
reply_data reply.Forgotten = plain_data (codes "forgotten")
reply_data (reply.Recorded total) = object_data ((codes "reply", string (codes "recorded")) ∷ (codes "total", number_data total) ∷ [])
reply_data (reply.Gathered loads totals) = object_data
    ((codes "loads", list_data number_data loads) ∷ (codes "reply", string (codes "loads")) ∷ (codes "totals", list_data number_data totals) ∷ [])
reply_data (reply.Planned plan) = object_data
    ((codes "moves", list_data move_data plan.moves) ∷ (codes "reply", string (codes "plan")) ∷ (codes "slices", list_data (slice_data Quoted) plan.slices) ∷ [])
reply_data (reply.Next action) = object_data ((codes "next", string (action_word action)) ∷ (codes "reply", string (codes "next")) ∷ [])
reply_data reply.TermDropped = plain_data (codes "restarted")
reply_data (reply.Refused refusal) = refusal_data refusal
reply_data reply.NoMemory = plain_data (codes "no-memory")
