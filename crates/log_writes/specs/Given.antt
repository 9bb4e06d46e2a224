-- Tokens that tasks were given with the requests of a log.
use Rattle.std.specs.Prelude.{◌≡◌, ℕ, List, [], ◌∷◌, ◌++◌, reverse, Option, Some, None, option_and_then, option_map, option_to_list, Result, Ok, Err}
use Rattle.job_calls.specs.Jobs.{Job}
use Rattle.job_calls.specs.declared.call.ClusterCall.TheVariants as call
use Rattle.slicelet.specs.Rules.{covers_key}
use Rattle.slicelet.specs.States.{SliceletState}
use Rattle.cluster.specs.Clusters.{slicelet_of}
use Rattle.cluster.specs.Pasts.{Past}
use Rattle.cluster.specs.continued.Jobs.{Continued, job_in}
use Rattle.cluster.specs.continued.Runs.{IsRun}
use Rattle.fence.specs.declared.token.Token.{Token}
use Rattle.fence.specs.declared.giving.NoToken.{NoToken}
use Rattle.fence.specs.Giving.{token_in}
use Rattle.store_writes.specs.declared.write.GivenToken.{GivenToken}
use Rattle.store_writes.specs.declared.write.WriteEvent.TheVariants.{Given}
use Rattle.log_line.specs.declared.entry.LogEntry.{LogEntry}
use Rattle.log_line.specs.declared.line.LoggedCall.{LoggedCall}
use Rattle.log_line.specs.declared.line.LoggedCall.TheVariants.{Whole}
use Rattle.log_line.specs.declared.told.CallerReply.{CallerReply}
use Rattle.log_run.specs.Played.{StandsFor}
use Rattle.log_writes.specs.declared.giving.Asked.{Asked}
use Rattle.log_writes.specs.declared.turns.Turn.{Turn}

-- the request that a call is
abbrev pub asked_with : ℕ → ℕ → ℕ → Asked
asked_with task key at = record { task = task; key = key; at = at }

abbrev pub asked_in : LoggedCall → Option Asked
asked_in (Whole (call.Serve task key at)) = Some (asked_with task key at)
asked_in (Whole (call.Hold task key at)) = Some (asked_with task key at)
asked_in _ = None

-- what a task is given for a key, if it has a token for it
abbrev pub given_by : ℕ → Result Token NoToken → Option GivenToken
given_by key (Ok token) = Some (record { key = key; generation = token.generation; life = token.life })
given_by key (Err why) = None

-- what a task in this state is given with a request, where a slice has at most so many owners; a log has no epoch
abbrev pub given_in_state : ℕ → Asked → SliceletState → Option GivenToken
given_in_state most asked s = given_by asked.key (token_in most (covers_key asked.key) 0 s asked.at)

-- what a task is given with a call after these calls
abbrev pub given_when : Job → Past → Asked → Option GivenToken
given_when job past asked = option_and_then (given_in_state job.policy.high asked) (slicelet_of job past asked.task)

abbrev pub given_in : Job → Past → LoggedCall → Option GivenToken
given_in job past c = option_and_then (given_when job past) (asked_in c)

-- a task was given a token with the call of an entry
abbrev pub given_turn : LogEntry → GivenToken → Turn
given_turn entry token = record { ticket = entry.line.ticket; place = entry.place; event = Given token }

abbrev pub given_with : Job → Past → LogEntry → List Turn
given_with job past entry = option_to_list (option_map (given_turn entry) (given_in job past entry.line.call))

-- the calls of a past are those before, and then those that these entries stand for, both newest first, and these are the tokens that tasks were
-- given with the entries, oldest first
abbrev pub AreGiven : Continued → List LogEntry → Past → List Turn → Type 0
AreGiven job [] past turns = (past ≡ job.earlier) × (turns ≡ [])
AreGiven job (entry ∷ entries) past turns =
    (before : Past) × (told : CallerReply) × (earlier : List Turn) × StandsFor (job_in job) before entry.line.call told past
    × (turns ≡ earlier ++ given_with (job_in job) before entry) × AreGiven job entries before earlier

-- these are the tokens that tasks were given with entries, in the run that the entries stand for
pub record AreGivenIn (job : Continued) (entries : List LogEntry) (turns : List Turn) : Type 0 where
  pub past : Past
  pub given : AreGiven job (reverse entries) past turns
  pub answered : IsRun job past
