-- What a trace ends with has no fractions.
use Rattle.std.proofs.Common.{◌≡◌, ℕ, List, [], ◌∷◌, ◌++◌, Bool, true, false, ◌||◌, ◌==◌, Option, Some, None, option_map, nat_eq, map, Result, Ok, Err, IfOk, refl}
use Rattle.std.specs.Prelude.{codes, if◌then◌else◌}
use Rattle.serde_json.specs.Data.{Data, Members, array, boolean, no_members, member, object, put, string}
use Rattle.serde_json.specs.View.{items_of}
use Rattle.serde_json.specs.Written.{has_float, items_have_float, members_have_float}
use Rattle.wire.specs.Objects.{list_data, number_data}
use Rattle.wire.proofs.Lists.{items_whole}
use Rattle.reason_values.specs.declared.place.LogLine.{LogLine}
use Rattle.reason_values.specs.Lines.{line_text}
use Rattle.reply_values.specs.Values.{large_data, put_if}
use Rattle.reason_values.specs.Places.{with_place}
use Rattle.reason_values.proofs.Whole.{place_whole, with_place_whole}
use Rattle.reply_values.proofs.Putting.{put_whole}
use Rattle.trace_ends.specs.declared.drift.DriftFound.{DriftFound}
use Rattle.trace_ends.specs.declared.drift.DriftFound.TheVariants.{Kept, Wrong}
use Rattle.trace_ends.specs.declared.drift.SampleFault.{SampleFault}
use Rattle.trace_ends.specs.declared.drift.SampleFault.TheVariants as fault
use Rattle.trace_ends.specs.declared.drift.WrongSample.{WrongSample}
use Rattle.trace_ends.specs.declared.end.Counts.{Counts}
use Rattle.trace_ends.specs.declared.end.DoubleTicket.{DoubleTicket}
use Rattle.trace_ends.specs.declared.end.OneRun.{OneRun}
use Rattle.trace_ends.specs.declared.hints.Hints.{Hints}
use Rattle.trace_ends.specs.declared.hints.GrantsHint.{GrantsHint}
use Rattle.trace_ends.specs.declared.hints.OpenHint.{OpenHint}
use Rattle.reasons.specs.declared.untimely.PlacedReading.{PlacedReading}
use Rattle.reasons.specs.declared.untimely.UntimelyReadings.{UntimelyReadings}
use Rattle.job_calls.specs.Jobs.{Job}
use Rattle.trace_ends.specs.Ends.{actor_data, begin_data, counts_data, double_data, double_members, drift_data, ended, fault_word, grants_data, hint_values, judged, listed, most_of, one_members, open_data, other_members, reading_data, sample_data, untimely_data, with_call, with_flag_if, with_list_if, with_number_if}
use Rattle.trace_ends.specs.Heads.{begun, job_data, log_line_data, logs_members, script_members, with_key, with_torn}

-- MEMBERS

both_whole : (a b : Bool) → a ≡ false → b ≡ false → a || b ≡ false
both_whole a b first second = rw first second

pub is_whole : Option Data → Type 0
is_whole None = Unit {0}
is_whole (Some value) = has_float value ≡ false

pub put_if_whole : (name : List ℕ) (value : Option Data) (others : Members) → is_whole value → members_have_float others ≡ false
    → members_have_float (put_if name value others) ≡ false
unfolding is_whole
put_if_whole name None others whole rest = rest
put_if_whole name (Some value) others whole rest = put_whole name value others whole rest

-- READINGS AND SAMPLES

with_call_whole : (lines : List LogLine) (call : Option ℕ) (others : Members) → members_have_float others ≡ false
    → members_have_float (with_call lines call others) ≡ false
with_call_whole lines None others rest = rest
with_call_whole lines (Some call) others rest = with_place_whole lines call others rest

reading_whole : (lines : List LogLine) (reading : PlacedReading) → has_float (reading_data lines reading) ≡ false
reading_whole lines reading = with_call_whole lines reading.call (put (codes "at") (large_data reading.at) no_members) refl

untimely_whole : (lines : List LogLine) (untimely : UntimelyReadings) → has_float (untimely_data lines untimely) ≡ false
untimely_whole lines untimely =
    rw (reading_whole lines untimely.first, reading_whole lines untimely.greatest, reading_whole lines untimely.task) refl

untimely_if_whole : (lines : List LogLine) (untimely : Option UntimelyReadings) → is_whole (option_map (untimely_data lines) untimely)
unfolding is_whole
untimely_if_whole lines None = tt
untimely_if_whole lines (Some untimely) = untimely_whole lines untimely

most_whole : (why : SampleFault) → is_whole (option_map large_data (most_of why))
unfolding is_whole
most_whole fault.Back = tt
most_whole fault.Ahead = tt
most_whole (fault.Beyond most) = refl

sample_whole : (lines : List LogLine) (wrong : WrongSample) → has_float (sample_data lines wrong) ≡ false
sample_whole lines wrong =
    let placed = with_place lines wrong.call no_members in
    let kept = put (codes "kept") (boolean false) placed in
    let now = put (codes "now") (large_data wrong.now) kept in
    let reading = put (codes "reading") (large_data wrong.reading) now in
    let sent = put (codes "sent") (large_data wrong.sent) reading in
    let why = put (codes "why") (string (fault_word wrong.why)) sent in
    put_if_whole (codes "most") (option_map large_data (most_of wrong.why)) why (most_whole wrong.why)
    (put_whole (codes "why") (string (fault_word wrong.why)) sent refl
    (put_whole (codes "sent") (large_data wrong.sent) reading refl
    (put_whole (codes "reading") (large_data wrong.reading) now refl
    (put_whole (codes "now") (large_data wrong.now) kept refl
    (put_whole (codes "kept") (boolean false) placed refl (with_place_whole lines wrong.call no_members refl))))))

drift_whole : (lines : List LogLine) (found : DriftFound) → has_float (drift_data lines found) ≡ false
drift_whole lines Kept = refl
drift_whole lines (Wrong wrong) = sample_whole lines wrong

drift_if_whole : (lines : List LogLine) (found : Option DriftFound) → is_whole (option_map (drift_data lines) found)
unfolding is_whole
drift_if_whole lines None = tt
drift_if_whole lines (Some found) = drift_whole lines found

-- COUNTS AND HINTS

counts_whole : (counts : Counts) → has_float (counts_data counts) ≡ false
counts_whole counts =
    rw (items_whole actor_data (λ taken. refl) counts.clerks.items, items_whole actor_data (λ taken. refl) counts.tasks.items) refl

pub are_whole : List Data → Type 0
are_whole [] = Unit {0}
are_whole (value ∷ values) = (has_float value ≡ false) × are_whole values

items_of_whole : (values : List Data) → are_whole values → items_have_float (items_of values) ≡ false
unfolding are_whole
items_of_whole [] all = refl
items_of_whole (value ∷ values) all = both_whole (has_float value) _ all.0 (items_of_whole values all.1)

appended_whole : (values more : List Data) → are_whole values → are_whole more → are_whole (values ++ more)
unfolding are_whole
appended_whole [] more all rest = rest
appended_whole (value ∷ values) more all rest = (all.0, appended_whole values more all.1 rest)

numbers_whole : (numbers : List ℕ) → are_whole (map number_data numbers)
unfolding are_whole
numbers_whole [] = tt
numbers_whole (number ∷ numbers) = (refl, numbers_whole numbers)

open_whole : (lines : List LogLine) (hint : Option OpenHint) → are_whole (listed (option_map (open_data lines) hint))
unfolding are_whole
open_whole lines None = tt
open_whole lines (Some hint) = (rw (place_whole lines hint.before) refl, tt)

begin_whole : (task : Option ℕ) → are_whole (listed (option_map begin_data task))
unfolding are_whole
begin_whole None = tt
begin_whole (Some task) = (refl, tt)

grants_whole : (hint : Option GrantsHint) → are_whole (listed (option_map grants_data hint))
unfolding are_whole
grants_whole None = tt
grants_whole (Some hint) = (refl, tt)

hints_whole : (lines : List LogLine) (hints : Hints) → are_whole (hint_values lines hints)
hints_whole lines hints =
    let process = listed (option_map (open_data lines) hints.process) in
    let begin = listed (option_map begin_data hints.begin) in
    let grants = listed (option_map grants_data hints.grants) in
    appended_whole process (begin ++ grants) (open_whole lines hints.process)
    (appended_whole begin grants (begin_whole hints.begin) (grants_whole hints.grants))

-- ENDS

list_if_whole : (name : List ℕ) (values : List Data) (others : Members) → are_whole values → members_have_float others ≡ false
    → members_have_float (with_list_if name values others) ≡ false
list_if_whole name [] others all rest = rest
list_if_whole name (value ∷ values) others all rest = put_whole name (array (items_of (value ∷ values))) others (items_of_whole (value ∷ values) all) rest

number_put : (is_none : Bool) (name : List ℕ) (number : ℕ) (others : Members) → members_have_float others ≡ false
    → members_have_float (if is_none then others else put name (number_data number) others) ≡ false
number_put true name number others rest = rest
number_put false name number others rest = put_whole name (number_data number) others refl rest

flag_whole : (name : List ℕ) (flag : Bool) (others : Members) → members_have_float others ≡ false
    → members_have_float (with_flag_if name flag others) ≡ false
flag_whole name true others rest = put_whole name (boolean true) others refl rest
flag_whole name false others rest = rest

pub ended_whole : (lines : List LogLine) (calls : ℕ) (untimely : Option UntimelyReadings) → members_have_float (ended lines calls untimely) ≡ false
ended_whole lines calls untimely =
    put_if_whole (codes "untimely") (option_map (untimely_data lines) untimely) (put (codes "calls") (number_data calls) no_members)
    (untimely_if_whole lines untimely) refl

judged_whole : (verdict : List ℕ) (others : Members) → members_have_float others ≡ false → members_have_float (judged verdict others) ≡ false
judged_whole verdict others rest = put_whole (codes "verdict") (string verdict) others refl rest

pub one_whole : (lines : List LogLine) (calls : ℕ) (run : OneRun) → members_have_float (one_members lines calls run) ≡ false
one_whole lines calls run =
    let begun = ended lines calls run.untimely in
    let verdict = judged (codes "one") begun in
    let counts = put (codes "counts") (counts_data run.counts) verdict in
    let words = with_number_if (codes "one_word") run.one_word counts in
    let silent = with_list_if (codes "silent") (map number_data run.silent.items) words in
    let drift = put_if (codes "drift") (option_map (drift_data lines) run.drift) silent in
    flag_whole (codes "forgotten") run.forgotten drift
    (put_if_whole (codes "drift") (option_map (drift_data lines) run.drift) silent (drift_if_whole lines run.drift)
    (list_if_whole (codes "silent") (map number_data run.silent.items) words (numbers_whole run.silent.items)
    (number_put (nat_eq run.one_word 0) (codes "one_word") run.one_word counts
    (put_whole (codes "counts") (counts_data run.counts) verdict (counts_whole run.counts)
    (judged_whole (codes "one") begun (ended_whole lines calls run.untimely))))))

double_whole : (lines : List LogLine) (double : DoubleTicket) → has_float (double_data lines double) ≡ false
double_whole lines double = rw (place_whole lines double.first, place_whole lines double.second) refl

pub doubled_whole : (lines : List LogLine) (calls : ℕ) (double : DoubleTicket) → members_have_float (double_members lines calls double) ≡ false
doubled_whole lines calls double =
    let begun = ended lines calls None in
    put_whole (codes "double") (double_data lines double) (judged (codes "double") begun) (double_whole lines double)
    (judged_whole (codes "double") begun (ended_whole lines calls None))

pub other_whole : (lines : List LogLine) (calls : ℕ) (hints : Hints) → members_have_float (other_members lines calls hints) ≡ false
other_whole lines calls hints =
    let begun = ended lines calls None in
    list_if_whole (codes "hints") (hint_values lines hints) (judged (codes "other") begun) (hints_whole lines hints)
    (judged_whole (codes "other") begun (ended_whole lines calls None))

-- HEADS

redundancy_chosen : (same : Bool) (low high : ℕ) → has_float (if same then number_data low else list_data number_data (low ∷ high ∷ [])) ≡ false
redundancy_chosen true low high = refl
redundancy_chosen false low high = refl

job_whole : (job : Job) → has_float (job_data job) ≡ false
job_whole job = rw (redundancy_chosen (job.policy.low == job.policy.high) job.policy.low job.policy.high) refl

begun_whole : (of : List ℕ) (job : Job) → members_have_float (begun of job) ≡ false
begun_whole of job =
    put_whole (codes "job") (job_data job) (put (codes "of") (string of) (put (codes "trace") (number_data 1) no_members)) (job_whole job) refl

number_if_whole : (number : Option ℕ) → is_whole (option_map large_data number)
unfolding is_whole
number_if_whole None = tt
number_if_whole (Some number) = refl

text_if_whole : (text : Option (List ℕ)) → is_whole (option_map string text)
unfolding is_whole
text_if_whole None = tt
text_if_whole (Some text) = refl

key_whole : (slice_key : Option ℕ) (key : Option (List ℕ)) (others : Members) → members_have_float others ≡ false
    → members_have_float (with_key slice_key key others) ≡ false
key_whole slice_key key others rest =
    put_if_whole (codes "slice_key") (option_map large_data slice_key) (put_if (codes "key") (option_map string key) others)
    (number_if_whole slice_key) (put_if_whole (codes "key") (option_map string key) others (text_if_whole key) rest)

torn_whole : (torn : List LogLine) (others : Members) → members_have_float others ≡ false → members_have_float (with_torn torn others) ≡ false
torn_whole [] others rest = rest
torn_whole (at ∷ more) others rest =
    put_whole (codes "torn") (list_data log_line_data (at ∷ more)) others (items_whole log_line_data (λ one. refl) (at ∷ more)) rest

pub script_whole : (job : Job) (slice_key : Option ℕ) (key : Option (List ℕ)) → members_have_float (script_members job slice_key key) ≡ false
script_whole job slice_key key = key_whole slice_key key (begun (codes "script") job) (begun_whole (codes "script") job)

pub logs_whole : (job : Job) (names : List (List ℕ)) (torn : List LogLine) (slice_key : Option ℕ) (key : Option (List ℕ))
    → members_have_float (logs_members job names torn slice_key key) ≡ false
logs_whole job names torn slice_key key =
    let start = begun (codes "logs") job in
    let named = put (codes "logs") (list_data string names) start in
    key_whole slice_key key (with_torn torn named) (torn_whole torn named
    (put_whole (codes "logs") (list_data string names) start (items_whole string (λ name. refl) names) (begun_whole (codes "logs") job)))

-- LINES

-- the line of members of which none has a fraction
pub written : {X E : Type 0} (r : Result X E) (text : X → List ℕ) (value : Members → Data) (others wanted : Members) → others ≡ wanted
    → members_have_float wanted ≡ false → IfOk r (λ x. members_have_float others ≡ false → text x ≡ line_text (value others))
    → IfOk r (λ x. text x ≡ line_text (value wanted))
written (Ok x) text value others wanted same whole line = rw (← same) (line (rw same whole))
written (Err e) text value others wanted same whole line = tt

-- the same, where that is given
pub written_if : {X E : Type 0} (r : Result X E) (text : X → List ℕ) (value : Members → Data) (others wanted : Members) (Given : Type 0)
    → others ≡ wanted → (Given → members_have_float wanted ≡ false)
    → IfOk r (λ x. members_have_float others ≡ false → text x ≡ line_text (value others)) → IfOk r (λ x. Given → text x ≡ line_text (value wanted))
written_if (Ok x) text value others wanted Given same whole line = λ given. rw (← same) (line (rw same (whole given)))
written_if (Err e) text value others wanted Given same whole line = tt

pub under_name : (name : List ℕ) (others : Members) → members_have_float others ≡ false
    → members_have_float (member name (object others) no_members) ≡ false
under_name name others rest = both_whole (members_have_float others) false rest refl

pub told_whole : (told : List ℕ) (others : Members) → members_have_float others ≡ false
    → members_have_float (put (codes "told") (string told) others) ≡ false
told_whole told others rest = put_whole (codes "told") (string told) others refl rest
