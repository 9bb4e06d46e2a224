-- The first line of a trace.
use Rattle.std.specs.Prelude.{ℕ, ◌==◌, List, [], ◌∷◌, codes, Option, option_map, if◌then◌else◌}
use Rattle.serde_json.specs.Data.{Data, Members, no_members, object, put, string}
use Rattle.job_calls.specs.Jobs.{Job}
use Rattle.wire.specs.Objects.{list_data, number_data, object_data}
use Rattle.reason_values.specs.declared.place.LogLine.{LogLine}
use Rattle.reply_values.specs.Values.{large_data, put_if}

-- how many tasks own a slice: one number, or the least and the greatest
abbrev pub redundancy_data : ℕ → ℕ → Data
redundancy_data low high = if low == high then number_data low else list_data number_data (low ∷ high ∷ [])

-- a job, as job lines have it
abbrev pub job_data : Job → Data
job_data job = object_data
    ((codes "assigners", number_data job.assigners) ∷ (codes "bridge", number_data job.policy.bridge) ∷ (codes "clerks", number_data job.clerks)
    ∷ (codes "guard", number_data job.policy.guard) ∷ (codes "job", number_data job.policy.job) ∷ (codes "numbers", number_data job.policy.numbers)
    ∷ (codes "redundancy", redundancy_data job.policy.low job.policy.high) ∷ (codes "skew", number_data job.policy.skew)
    ∷ (codes "tasks", number_data job.tasks) ∷ [])

-- the version, what the trace is of, and the job
abbrev pub begun : List ℕ → Job → Members
begun of job = put (codes "job") (job_data job) (put (codes "of") (string of) (put (codes "trace") (number_data 1) no_members))

-- these members, with the key whose stretches follow, and its text if it was given as one
abbrev pub with_key : Option ℕ → Option (List ℕ) → Members → Members
with_key slice_key key members = put_if (codes "slice_key") (option_map large_data slice_key)
    (put_if (codes "key") (option_map string key) members)

abbrev pub script_members : Job → Option ℕ → Option (List ℕ) → Members
script_members job slice_key key = with_key slice_key key (begun (codes "script") job)

abbrev pub script_head_data : Job → Option ℕ → Option (List ℕ) → Data
script_head_data job slice_key key = object (script_members job slice_key key)

-- a line of a log
abbrev pub log_line_data : LogLine → Data
log_line_data at = object_data ((codes "line", number_data at.line) ∷ (codes "log", number_data at.log) ∷ [])

-- these members, with the last lines that were left out, if there are any
abbrev pub with_torn : List LogLine → Members → Members
with_torn [] members = members
with_torn (at ∷ more) members = put (codes "torn") (list_data log_line_data (at ∷ more)) members

-- of logs with these names
abbrev pub logs_members : Job → List (List ℕ) → List LogLine → Option ℕ → Option (List ℕ) → Members
logs_members job names torn slice_key key =
    with_key slice_key key (with_torn torn (put (codes "logs") (list_data string names) (begun (codes "logs") job)))

abbrev pub logs_head_data : Job → List (List ℕ) → List LogLine → Option ℕ → Option (List ℕ) → Data
logs_head_data job names torn slice_key key = object (logs_members job names torn slice_key key)
