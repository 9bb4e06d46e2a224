-- The readings of the table's clock keep the drift over restarts.
use Rattle.std.proofs.Common.{◌≡◌, ℕ, ◌+◌, ◌-◌, ◌^◌, ◌≤◌, max, [], ◌∷◌, Result, Ok, Err, IfOk, Option, Some, None, nat_lt, arith}
use Rattle.std.proofs.lemmas.Bool.{cond_both, ltb-false}
use Rattle.std.specs.List.{AllByRecursion}
use Rattle.clocks.specs.declared.drift.Drift.{Drift}
use Rattle.clocks.specs.declared.refusal.ClockRefusal.{ClockRefusal}
use Rattle.clocks.specs.declared.table_clock.TableClock.{TableClock}
use Rattle.clocks.specs.declared.task_clock.Sample.{Sample}
use Rattle.clocks.specs.Drifts.{most_gain}
use Rattle.clocks.specs.TableClocks.{shown, table_answer, after_table_read}
use Rattle.clocks.specs.Pasts.{Moment, Event, EarlyRead, TableRead, Sampled, TaskRead, Other, Past, table_seen, newest, local_of, IsWithinDrift, KeepsDrift}
use Rattle.clocks.specs.Restarts.{Opens, Reads, TablePast, task_local, table_clock_after, with_reading, readings_in, HostGainsWithin, KeepsDriftSinceOpened, IsKept, GoesOn, EachKeepsDrift}
use Rattle.clocks.proofs.Stretching as stretched

-- what is known of a reading that is answered
pub record IsAnswered (clock : TableClock) (now value : ℕ) : Type 0 where
  pub order : clock.last ≤ now
  pub above : clock.kept ≤ value
  pub is : value ≡ shown clock now

answered : (clock : TableClock) (now : ℕ) → IfOk (table_answer clock now) (IsAnswered clock now)
answered clock now =
    let P : Result ℕ ClockRefusal → Type 0 = λ r. IfOk r (IsAnswered clock now) in
    cond_both (nat_lt now clock.last) (Err _) _ P (λ _. tt)
    (λ order. cond_both (nat_lt (shown clock now) (2 ^ 64)) _ (Err _) P
    (λ _. cond_both (nat_lt (shown clock now) clock.kept) (Err _) (Ok (shown clock now)) P (λ _. tt)
    (λ high. record { order = ltb-false _ _ order; above = ltb-false _ _ high; is = omega arith }))
    (λ _. tt))

-- the task's local clock goes on from one moment to the next
goes_on : (early middle late : Option ℕ) → GoesOn early middle → GoesOn middle late → GoesOn early late
goes_on None middle late first second = tt
goes_on (Some early) None late first second = absurd first
goes_on (Some early) (Some middle) None first second = absurd second
goes_on (Some early) (Some middle) (Some late) first second = omega (arith, first, second)

-- IN ONE PROCESS

same_process : (drift : Drift) (late early : ℕ) (local from : Option ℕ) (high low : ℕ) → GoesOn from local → HostGainsWithin drift late local early from
    → low ≤ high → high ≤ low + (late - early) → IsWithinDrift drift (table_seen high local) (table_seen low from)
same_process drift late early None None high low order gains rises grown = record { local = tt; readings = rises }
same_process drift late early (Some local) None high low order gains rises grown = record { local = tt; readings = rises }
same_process drift late early None (Some from) high low order gains rises grown = absurd order
same_process drift late early (Some local) (Some from) high low order gains rises grown =
    record { local = order; readings = record { rises = rises; gains = omega (arith, gains, grown) } }

-- OVER A RESTART

gained : (drift : Drift) (ahead kept now opening value early last task_early task_open task_late : ℕ) → IsKept drift ahead kept last
    → value ≡ (kept - ahead) + (now - opening) → task_early ≤ task_open → task_open ≤ task_late
    → now - opening ≤ most_gain drift (task_late - task_open) + drift.grain → last ≤ early + most_gain drift (task_open - task_early) + drift.grain
    → value ≤ early + most_gain drift (task_late - task_early) + drift.grain
gained drift ahead kept now opening value early last task_early task_open task_late is same first second host before =
    let shorter : task_late - task_open ≤ task_late - task_early = omega (arith, first, second) in
    let parts : (task_open - task_early) + (task_late - task_open) ≤ task_late - task_early = omega (arith, first, second) in
    omega (
      arith,
      is.room,
      same,
      host,
      before,
      stretched.in_sum drift (task_open - task_early) (task_late - task_open),
      stretched.grows drift ((task_open - task_early) + (task_late - task_open)) (task_late - task_early) parts,
      stretched.grows drift (task_late - task_open) (task_late - task_early) shorter,
    )

-- what a reading is known by when a process opens the clock after it
pub record IsReached (drift : Drift) (last start : ℕ) (moment : Moment) : Type 0 where
  pub below : moment.table ≤ last
  pub before : moment.local ≤ start
  pub gains : last ≤ moment.table + most_gain drift (start - moment.local) + drift.grain

abbrev IsReachedAt : Drift → ℕ → Option ℕ → Moment → Type 0
IsReachedAt drift last None moment = ⊥
IsReachedAt drift last (Some start) moment = IsReached drift last start moment

abbrev IsSeen : Drift → ℕ → Option ℕ → Event → Type 0
IsSeen drift last start (EarlyRead reading) = reading ≤ last
IsSeen drift last start (TableRead moment) = IsReachedAt drift last start moment
IsSeen drift last start event = GoesOn (local_of event) start

newest_below : (drift : Drift) (late : Moment) (past : Past) → AllByRecursion (IsWithinDrift drift (TableRead late)) past → newest past ≤ late.table
newest_below drift late [] within = omega arith
newest_below drift late (EarlyRead reading ∷ past) within = omega (arith, within.0.readings, newest_below drift late past within.1)
newest_below drift late (TableRead moment ∷ past) within = omega (arith, within.0.readings.rises, newest_below drift late past within.1)
newest_below drift late (Sampled at sample ∷ past) within = newest_below drift late past within.1
newest_below drift late (TaskRead at ∷ past) within = newest_below drift late past within.1
newest_below drift late (Other ∷ past) within = newest_below drift late past within.1

-- one more reading before the process opens the clock
reached_more : (drift : Drift) (last : ℕ) (late moment : Moment) (start : Option ℕ) → GoesOn (Some late.local) start → IsWithinDrift drift (TableRead late) (TableRead moment)
    → IsReachedAt drift last start moment → IsReachedAt drift (max late.table last) start moment
reached_more drift last late moment None order within reached = absurd reached
reached_more drift last late moment (Some start) order within reached =
    let longer : late.local - moment.local ≤ start - moment.local = omega (arith, order) in
    let grows = stretched.grows drift (late.local - moment.local) (start - moment.local) longer in
    record {
      below = omega (arith, reached.below);
      before = reached.before;
      gains = omega (arith, reached.gains, within.readings.gains, grows);
    }

seen_after : (drift : Drift) (last : ℕ) (late : Moment) (start : Option ℕ) (event : Event) → GoesOn (Some late.local) start → IsWithinDrift drift (TableRead late) event
    → IsSeen drift last start event → IsSeen drift (max late.table last) start event
seen_after drift last late start (EarlyRead reading) order within seen = omega (arith, seen)
seen_after drift last late start (TableRead moment) order within seen = reached_more drift last late moment start order within seen
seen_after drift last late start (Sampled at sample) order within seen = seen
seen_after drift last late start (TaskRead at) order within seen = seen
seen_after drift last late start Other order within seen = seen

seen_early : (drift : Drift) (last late : ℕ) (start : Option ℕ) (event : Event) → IsWithinDrift drift (EarlyRead late) event → IsSeen drift last start event
    → IsSeen drift (max late last) start event
seen_early drift last late start (EarlyRead reading) within seen = omega (arith, seen)
seen_early drift last late start (TableRead moment) within seen = absurd within.readings
seen_early drift last late start (Sampled at sample) within seen = seen
seen_early drift last late start (TaskRead at) within seen = seen
seen_early drift last late start Other within seen = seen

all_seen_after : (drift : Drift) (last : ℕ) (late : Moment) (start : Option ℕ) (past : Past) → GoesOn (Some late.local) start
    → AllByRecursion (IsWithinDrift drift (TableRead late)) past → AllByRecursion (IsSeen drift last start) past
    → AllByRecursion (IsSeen drift (max late.table last) start) past
all_seen_after drift last late start [] order within seen = tt
all_seen_after drift last late start (event ∷ past) order within seen =
    (seen_after drift last late start event order within.0 seen.0, all_seen_after drift last late start past order within.1 seen.1)

all_seen_early : (drift : Drift) (last late : ℕ) (start : Option ℕ) (past : Past) → AllByRecursion (IsWithinDrift drift (EarlyRead late)) past
    → AllByRecursion (IsSeen drift last start) past → AllByRecursion (IsSeen drift (max late last) start) past
all_seen_early drift last late start [] within seen = tt
all_seen_early drift last late start (event ∷ past) within seen =
    (seen_early drift last late start event within.0 seen.0, all_seen_early drift last late start past within.1 seen.1)

-- the last reading itself
reached_now : (drift : Drift) (last : ℕ) (late : Moment) (start : Option ℕ) → GoesOn (Some late.local) start → last ≤ late.table
    → IsReachedAt drift (max late.table last) start late
reached_now drift last late None order low = absurd order
reached_now drift last late (Some start) order low = record { below = omega arith; before = order; gains = omega (arith, low) }

all_seen : (drift : Drift) (start : Option ℕ) (past : Past) → KeepsDrift drift past → AllByRecursion (λ event. GoesOn (local_of event) start) past
    → AllByRecursion (IsSeen drift (newest past) start) past
all_seen drift start [] keeps order = tt
all_seen drift start (EarlyRead late ∷ past) keeps order =
    (omega arith, all_seen_early drift (newest past) late start past keeps.0 (all_seen drift start past keeps.1 order.1))
all_seen drift start (TableRead late ∷ past) keeps order = (
  reached_now drift (newest past) late start order.0 (newest_below drift late past keeps.0),
  all_seen_after drift (newest past) late start past order.0 keeps.0 (all_seen drift start past keeps.1 order.1),
)
all_seen drift start (Sampled at sample ∷ past) keeps order = (order.0, all_seen drift start past keeps.1 order.1)
all_seen drift start (TaskRead at ∷ past) keeps order = (order.0, all_seen drift start past keeps.1 order.1)
all_seen drift start (Other ∷ past) keeps order = (order.0, all_seen drift start past keeps.1 order.1)

-- what a process reads after it opened the clock
record IsOpened (drift : Drift) (ahead kept now opening value last : ℕ) (start local : Option ℕ) : Type 0 where
  pub is_kept : IsKept drift ahead kept last
  pub is : value ≡ (kept - ahead) + (now - opening)
  pub above : kept ≤ value
  pub order : GoesOn start local
  pub host : HostGainsWithin drift now local opening start

seen_moment : (drift : Drift) (ahead kept now opening value last : ℕ) (start local : Option ℕ) (early : Moment)
    → IsOpened drift ahead kept now opening value last start local → IsReachedAt drift last start early → IsWithinDrift drift (table_seen value local) (TableRead early)
seen_moment drift ahead kept now opening value last None local early is reached = absurd reached
seen_moment drift ahead kept now opening value last (Some start) None early is reached = absurd is.order
seen_moment drift ahead kept now opening value last (Some start) (Some local) early is reached = record {
  local = omega (arith, reached.before, is.order);
  readings = record {
    rises = omega (arith, reached.below, is.is_kept.above, is.above);
    gains = gained drift ahead kept now opening value early.table last early.local start local is.is_kept is.is reached.before is.order is.host reached.gains;
  };
}

early_reading : (drift : Drift) (value reading : ℕ) (local : Option ℕ) → reading ≤ value → IsWithinDrift drift (table_seen value local) (EarlyRead reading)
early_reading drift value reading None low = record { local = tt; readings = low }
early_reading drift value reading (Some local) low = record { local = tt; readings = low }

own_event : (drift : Drift) (value at : ℕ) (local : Option ℕ) (sample : Sample) → GoesOn (Some at) local
    → IsWithinDrift drift (table_seen value local) (Sampled at sample)
own_event drift value at None sample order = absurd order
own_event drift value at (Some local) sample order = record { local = order; readings = tt }

own_reading : (drift : Drift) (value at : ℕ) (local : Option ℕ) → GoesOn (Some at) local → IsWithinDrift drift (table_seen value local) (TaskRead at)
own_reading drift value at None order = absurd order
own_reading drift value at (Some local) order = record { local = order; readings = tt }

other_event : (drift : Drift) (value : ℕ) (local : Option ℕ) → IsWithinDrift drift (table_seen value local) Other
other_event drift value None = record { local = tt; readings = tt }
other_event drift value (Some local) = record { local = tt; readings = tt }

seen_event : (drift : Drift) (ahead kept now opening value last : ℕ) (start local : Option ℕ) (early : Event)
    → IsOpened drift ahead kept now opening value last start local → IsSeen drift last start early → IsWithinDrift drift (table_seen value local) early
seen_event drift ahead kept now opening value last start local (EarlyRead reading) is seen =
    early_reading drift value reading local (omega (arith, seen, is.is_kept.above, is.above))
seen_event drift ahead kept now opening value last start local (TableRead early) is seen = seen_moment drift ahead kept now opening value last start local early is seen
seen_event drift ahead kept now opening value last start local (Sampled at sample) is seen =
    own_event drift value at local sample (goes_on (Some at) start local seen is.order)
seen_event drift ahead kept now opening value last start local (TaskRead at) is seen = own_reading drift value at local (goes_on (Some at) start local seen is.order)
seen_event drift ahead kept now opening value last start local Other is seen = other_event drift value local

all_within : (drift : Drift) (ahead kept now opening value last : ℕ) (start local : Option ℕ) (past : Past)
    → IsOpened drift ahead kept now opening value last start local → AllByRecursion (IsSeen drift last start) past
    → AllByRecursion (IsWithinDrift drift (table_seen value local)) past
all_within drift ahead kept now opening value last start local [] is seen = tt
all_within drift ahead kept now opening value last start local (event ∷ past) is seen = (
  seen_event drift ahead kept now opening value last start local event is seen.0,
  all_within drift ahead kept now opening value last start local past is seen.1,
)

-- OVER THE WHOLE PAST

seen_local : (value : ℕ) (from local : Option ℕ) → GoesOn from local → GoesOn (local_of (table_seen value from)) local
seen_local value None local order = tt
seen_local value (Some from) local order = order

with_local : (answer : Result ℕ ClockRefusal) (from local : Option ℕ) (readings : Past) → GoesOn from local
    → AllByRecursion (λ event. GoesOn (local_of event) local) readings → AllByRecursion (λ event. GoesOn (local_of event) local) (with_reading answer from readings)
with_local (Ok value) from local readings order all = (seen_local value from local order, all)
with_local (Err why) from local readings order all = all

locals : (ahead : ℕ) (local : Option ℕ) (past : TablePast) → AllByRecursion (λ event. GoesOn (task_local event) local) past
    → AllByRecursion (λ event. GoesOn (local_of event) local) (readings_in ahead past)
locals ahead local [] order = tt
locals ahead local (Opens kept now from ∷ past) order = locals ahead local past order.1
locals ahead local (Reads now from ∷ past) order =
    with_local (table_answer (table_clock_after ahead past) now) from local (readings_in ahead past) order.0 (locals ahead local past order.1)

abbrev AreBefore : Drift → ℕ → Option ℕ → Past → Type 0
AreBefore drift value local readings = AllByRecursion (IsWithinDrift drift (table_seen value local)) readings

one_more : (drift : Drift) (clock : TableClock) (early now value : ℕ) (from local : Option ℕ) (readings : Past) (answer : Result ℕ ClockRefusal)
    → IfOk answer (IsAnswered clock early) → GoesOn from local → HostGainsWithin drift now local early from → KeepsDrift drift (with_reading answer from readings)
    → IsAnswered (after_table_read clock early answer) now value
    → (KeepsDrift drift readings → IsAnswered clock now value → AreBefore drift value local readings) → AreBefore drift value local (with_reading answer from readings)
one_more drift clock early now value from local readings (Err why) known order host keeps is rest = rest keeps is
one_more drift clock early now value from local readings (Ok low) known order host keeps is rest = (
  same_process drift now early local from value low order host (omega (arith, known.is, is.is, is.order)) (omega (arith, known.is, is.is, is.order)),
  rest keeps.1 (record { order = omega (arith, known.order, is.order); above = is.above; is = is.is }),
)

within : (drift : Drift) (ahead : ℕ) (past : TablePast) (now value : ℕ) (local : Option ℕ) → EachKeepsDrift drift ahead past → KeepsDriftSinceOpened drift now local past
    → AllByRecursion (λ event. GoesOn (task_local event) local) past → KeepsDrift drift (readings_in ahead past) → IsAnswered (table_clock_after ahead past) now value
    → AreBefore drift value local (readings_in ahead past)
within drift ahead [] now value local each host order keeps is = tt
within drift ahead (Reads early from ∷ past) now value local each host order keeps is =
    let clock = table_clock_after ahead past in
    one_more drift clock early now value from local (readings_in ahead past) (table_answer clock early) (answered clock early) order.0 host.0 keeps is
    (λ keeps_before is_before. within drift ahead past now value local each.2 host.1 order.1 keeps_before is_before)
within drift ahead (Opens kept opening start ∷ past) now value local each host order keeps is =
    let last = newest (readings_in ahead past) in
    let opened : IsOpened drift ahead kept now opening value last start local =
    record { is_kept = each.0; is = is.is; above = is.above; order = order.0; host = host } in
    all_within drift ahead kept now opening value last start local (readings_in ahead past) opened
    (all_seen drift start (readings_in ahead past) keeps (locals ahead start past each.1))

with_one : (drift : Drift) (answer : Result ℕ ClockRefusal) (local : Option ℕ) (readings : Past) → KeepsDrift drift readings
    → IfOk answer (λ value. AreBefore drift value local readings) → KeepsDrift drift (with_reading answer local readings)
with_one drift (Ok value) local readings keeps before = (before, keeps)
with_one drift (Err why) local readings keeps before = keeps

before_answer : (drift : Drift) (clock : TableClock) (now : ℕ) (local : Option ℕ) (readings : Past) (answer : Result ℕ ClockRefusal) → IfOk answer (IsAnswered clock now)
    → ((value : ℕ) → IsAnswered clock now value → AreBefore drift value local readings) → IfOk answer (λ value. AreBefore drift value local readings)
before_answer drift clock now local readings (Ok value) known all = all value known
before_answer drift clock now local readings (Err why) known all = tt

pub restarted : (drift : Drift) (ahead : ℕ) (past : TablePast) → EachKeepsDrift drift ahead past → KeepsDrift drift (readings_in ahead past)
restarted drift ahead [] each = tt
restarted drift ahead (Opens kept now local ∷ past) each = restarted drift ahead past each.2
restarted drift ahead (Reads now local ∷ past) each =
    let clock = table_clock_after ahead past in
    let keeps = restarted drift ahead past each.2 in
    with_one drift (table_answer clock now) local (readings_in ahead past) keeps
    (before_answer drift clock now local (readings_in ahead past) (table_answer clock now) (answered clock now)
    (λ value is. within drift ahead past now value local each.2 each.0 each.1 keeps is))
