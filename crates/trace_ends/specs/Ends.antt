-- The last line of a trace.
use Rattle.std.specs.Prelude.{ℕ, List, [], ◌∷◌, ◌++◌, codes, Bool, true, false, Option, Some, None, map, nat_eq, option_map, if◌then◌else◌}
use Rattle.serde_json.specs.Data.{Data, Members, array, boolean, item, no_items, no_members, object, put, string}
use Rattle.serde_json.specs.View.{items_of}
use Rattle.wire.specs.Objects.{list_data, number_data, object_data}
use Rattle.trace_ends.specs.declared.drift.DriftFound.{DriftFound}
use Rattle.trace_ends.specs.declared.drift.DriftFound.TheVariants.{Kept, Wrong}
use Rattle.trace_ends.specs.declared.drift.SampleFault.{SampleFault}
use Rattle.trace_ends.specs.declared.drift.SampleFault.TheVariants as fault
use Rattle.trace_ends.specs.declared.drift.WrongSample.{WrongSample}
use Rattle.trace_ends.specs.declared.end.ActorCalls.{ActorCalls}
use Rattle.trace_ends.specs.declared.end.Counts.{Counts}
use Rattle.trace_ends.specs.declared.end.DoubleTicket.{DoubleTicket}
use Rattle.trace_ends.specs.declared.end.OneRun.{OneRun}
use Rattle.trace_ends.specs.declared.hints.GrantsHint.{GrantsHint}
use Rattle.trace_ends.specs.declared.hints.Hints.{Hints}
use Rattle.trace_ends.specs.declared.hints.OpenHint.{OpenHint}
use Rattle.reason_values.specs.declared.place.LogLine.{LogLine}
use Rattle.reasons.specs.declared.untimely.PlacedReading.{PlacedReading}
use Rattle.reasons.specs.declared.untimely.UntimelyReadings.{UntimelyReadings}
use Rattle.reply_values.specs.Values.{large_data, put_if}
use Rattle.reason_values.specs.Places.{place_data, with_place}
use Rattle.trace_ends.specs.Faults.{named_data}

-- READINGS THAT ARE NOT TIMELY

-- these members, with the place of a call, if it is one of these logs
abbrev pub with_call : List LogLine → Option ℕ → Members → Members
with_call lines None members = members
with_call lines (Some call) members = with_place lines call members

abbrev pub reading_data : List LogLine → PlacedReading → Data
reading_data lines reading = object (with_call lines reading.call (put (codes "at") (large_data reading.at) no_members))

abbrev pub untimely_data : List LogLine → UntimelyReadings → Data
untimely_data lines untimely = object_data
    ((codes "first", reading_data lines untimely.first) ∷ (codes "greatest", reading_data lines untimely.greatest)
    ∷ (codes "task", reading_data lines untimely.task) ∷ [])

-- DRIFT

abbrev pub fault_word : SampleFault → List ℕ
fault_word fault.Back = codes "back"
fault_word fault.Ahead = codes "ahead"
fault_word (fault.Beyond most) = codes "beyond"

-- the most that the table's clock could have shown
abbrev pub most_of : SampleFault → Option ℕ
most_of (fault.Beyond most) = Some most
most_of _ = None

abbrev pub sample_data : List LogLine → WrongSample → Data
sample_data lines wrong = object (put_if (codes "most") (option_map large_data (most_of wrong.why)) (put (codes "why") (string (fault_word wrong.why))
    (put (codes "sent") (large_data wrong.sent) (put (codes "reading") (large_data wrong.reading) (put (codes "now") (large_data wrong.now)
    (put (codes "kept") (boolean false) (with_place lines wrong.call no_members)))))))

abbrev pub drift_data : List LogLine → DriftFound → Data
drift_data lines Kept = object_data ((codes "kept", boolean true) ∷ [])
drift_data lines (Wrong wrong) = sample_data lines wrong

-- COUNTS

-- `[ACTOR,CALLS]`
abbrev pub actor_data : ActorCalls → Data
actor_data taken = array (item (number_data taken.actor) (item (number_data taken.calls) no_items))

abbrev pub counts_data : Counts → Data
counts_data counts = object_data
    ((codes "clerks", list_data actor_data counts.clerks.items) ∷ (codes "table", number_data counts.table)
    ∷ (codes "tasks", list_data actor_data counts.tasks.items) ∷ [])

-- HINTS

abbrev pub open_data : List LogLine → OpenHint → Data
open_data lines hint = object_data ((
  codes "open",
  object_data
      ((codes "before", place_data lines hint.before) ∷ (codes "life", number_data hint.life) ∷ (codes "task", number_data hint.task) ∷ []),
) ∷ [])

abbrev pub begin_data : ℕ → Data
begin_data task = object_data ((codes "begin", object_data ((codes "task", number_data task) ∷ [])) ∷ [])

abbrev pub grants_data : GrantsHint → Data
grants_data hint = object_data ((codes "grants", object_data ((codes "from", large_data hint.from) ∷ (codes "to", large_data hint.to) ∷ [])) ∷ [])

-- what there is, as a list
abbrev pub listed : Option Data → List Data
listed None = []
listed (Some value) = value ∷ []

abbrev pub hint_values : List LogLine → Hints → List Data
hint_values lines hints = listed (option_map (open_data lines) hints.process)
    ++ (listed (option_map begin_data hints.begin) ++ listed (option_map grants_data hints.grants))

-- ENDS

-- these members, with a list if it has any elements
abbrev pub with_list_if : List ℕ → List Data → Members → Members
with_list_if name [] members = members
with_list_if name (value ∷ values) members = put name (array (items_of (value ∷ values))) members

-- these members, with a number above 0
abbrev pub with_number_if : List ℕ → ℕ → Members → Members
with_number_if name number members = if nat_eq number 0 then members else put name (number_data number) members

-- these members, with a flag that is set
abbrev pub with_flag_if : List ℕ → Bool → Members → Members
with_flag_if name flag members = if flag then put name (boolean true) members else members

-- how many calls there are, and the first reading that is not timely, if there is one
abbrev pub ended : List LogLine → ℕ → Option UntimelyReadings → Members
ended lines calls untimely = put_if (codes "untimely") (option_map (untimely_data lines) untimely) (put (codes "calls") (number_data calls) no_members)

-- these members, with the verdict on logs
abbrev pub judged : List ℕ → Members → Members
judged verdict members = put (codes "verdict") (string verdict) members

-- the last line
abbrev pub end_data : Members → Data
end_data members = named_data (codes "end") members

-- of a script
abbrev pub script_end_data : ℕ → Option UntimelyReadings → Data
script_end_data calls untimely = end_data (ended [] calls untimely)

-- of logs that are one run
abbrev pub one_members : List LogLine → ℕ → OneRun → Members
one_members lines calls run = with_flag_if (codes "forgotten") run.forgotten
    (put_if (codes "drift") (option_map (drift_data lines) run.drift)
    (with_list_if (codes "silent") (map number_data run.silent.items)
    (with_number_if (codes "one_word") run.one_word
    (put (codes "counts") (counts_data run.counts) (judged (codes "one") (ended lines calls run.untimely))))))

abbrev pub one_end_data : List LogLine → ℕ → OneRun → Data
one_end_data lines calls run = end_data (one_members lines calls run)

-- two calls that have one ticket
abbrev pub double_data : List LogLine → DoubleTicket → Data
double_data lines double = object_data
    ((codes "first", place_data lines double.first) ∷ (codes "second", place_data lines double.second)
    ∷ (codes "ticket", large_data double.ticket) ∷ [])

abbrev pub double_members : List LogLine → ℕ → DoubleTicket → Members
double_members lines calls double = put (codes "double") (double_data lines double) (judged (codes "double") (ended lines calls None))

abbrev pub double_end_data : List LogLine → ℕ → DoubleTicket → Data
double_end_data lines calls double = end_data (double_members lines calls double)

-- of logs that are not one run, with what they may lack
abbrev pub other_members : List LogLine → ℕ → Hints → Members
other_members lines calls hints = with_list_if (codes "hints") (hint_values lines hints) (judged (codes "other") (ended lines calls None))

abbrev pub other_end_data : List LogLine → ℕ → Hints → Data
other_end_data lines calls hints = end_data (other_members lines calls hints)
