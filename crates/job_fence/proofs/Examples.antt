-- Worked runs.
use Rattle.std.proofs.Common.{◌≡◌, ℕ, ◌+◌, ◌≤◌, Bool, true, false, ◌||◌, ◌&&◌, List, [], ◌∷◌, refl, ◌∙◌, inl, inr, arith, lit<, lit≤}
use Rattle.std.specs.Prelude.{not}
use Rattle.std.specs.List.{AllByRecursion}
use Rattle.machines.specs.Refusals.{when}
use Rattle.slice_ranges.specs.Sets.{keys_where}
use Rattle.lease_rule.specs.declared.lease.Kind.{Kind}
use Rattle.lease_rule.specs.declared.lease.Kind.TheVariants.{Guard, Bridge}
use Rattle.lease_rule.specs.declared.answer.Verdict.TheVariants.{Allow}
use Rattle.assignment.specs.Slices.{Slicing}
use Rattle.assignment.specs.Owners.{owns}
use Rattle.grants.specs.declared.table_call.TableCall.{TableCall}
use Rattle.grants.specs.declared.table_call.TableCall.TheVariants as asked
use Rattle.grants.specs.declared.table_call.TableReply.{TableReply}
use Rattle.grants.specs.declared.table_call.TableReply.TheVariants as told
use Rattle.grants.specs.declared.values.Grant.{Grant}
use Rattle.grants.specs.Policies.{terms}
use Rattle.grants.specs.Equality.{grant_eq, grant_equivalence}
use Rattle.grants.specs.declared.slicelet_call.SliceletCall.TheVariants as task_call
use Rattle.grants.specs.declared.slicelet_call.SliceletReply.TheVariants as task_reply
use Rattle.job_calls.specs.Jobs.{Job}
use Rattle.job_calls.specs.declared.call.ClusterCall.TheVariants as call
use Rattle.job_calls.specs.declared.error.ClusterError.TheVariants as error
use Rattle.job_calls.specs.declared.reply.ClusterReply.{ClusterReply}
use Rattle.job_calls.specs.declared.reply.ClusterReply.TheVariants as reply
use Rattle.job_calls.specs.declared.timing.Reading.{Reading}
use Rattle.job_calls.specs.declared.timing.Reading.TheVariants.{TableClock, TaskClock, NoClock}
use Rattle.cluster.specs.Timing.{IsNear, IsTimely, greatest_reading}
use Rattle.cluster.specs.Deliveries.{is_sent}
use Rattle.cluster.specs.Runs.{IsRun}
use Rattle.cluster.specs.Pasts.{Event, event, Past, readings}
use Rattle.cluster.specs.Replies.{unless}
use Rattle.job_fence.specs.Requests.{Request}
use Rattle.job_fence.specs.Examples.{HasLateGuard, HasFallingToken, HasEarlyLease, HasLateOwner, HasWideToken}

-- one assigner, two tasks, at most one owner for a slice
abbrev pub job : Job
job = record { policy = terms 1 1 1 100 100 1000 10; assigners = 1; tasks = 2; clerks = 1 }

-- the assignment of a generation that gives all keys to a task
abbrev all_to : ℕ → ℕ → Slicing
all_to task generation = record { generation = generation; slices = record { start = 0; owners = task ∷ [] } ∷ [] }

abbrev guard_for : ℕ → ℕ → ℕ → ℕ → ℕ → Grant
guard_for number task life generation at = record {
  number = number;
  task = task;
  life = life;
  lease = record { kind = Guard; generation = generation; ranges = keys_where (λ key. owns (all_to task generation).slices key task); ends = at + 99 };
  table_ends = at + 100;
}

abbrev asks_table : TableCall → TableReply → Event
asks_table asks tells = event (call.Table asks) (reply.Table tells)

abbrev starts : ℕ → ℕ → ℕ → Event
starts task life at = event (call.Task task (task_call.Start life at)) (reply.Task task_reply.Started)

abbrev hears : ℕ → Grant → ℕ → Event
hears task grant at = event (call.Task task (task_call.Hear grant at)) (reply.Task task_reply.Heard)

abbrev serves : ℕ → ℕ → Kind → ℕ → Event
serves task at kind generation = event (call.Serve task 0 at) (reply.Verdict (Allow kind generation))

-- a grant that was sent is heard
heard : (sent : Bool) (answer : ClusterReply) → sent ≡ true → answer ≡ unless (when (not sent) error.NotSent) answer
heard true answer e = refl
heard false answer e = absurd (cc)

or_else : (a b : Bool) → a ≡ true → (a || b) ≡ true
or_else true b e = refl
or_else false b e = absurd (cc)

-- task 1 starts life 1, generation 1 is committed and all keys are task 1's; it is sent a guard lease for a life
abbrev begun : ℕ → Past
begun life =
    asks_table (asked.Grant 1 life 3) (told.Granted (guard_for 1 1 life 1 3)) ∷
    asks_table (asked.Commit 1 2) (told.Committed 1) ∷
    asks_table (asked.Propose 1 (all_to 1 1) 1) told.Proposed ∷
    asks_table (asked.JobTake 1 0) (told.Term (record { number = 1; assigner = 1; until = 1000 })) ∷
    starts 1 1 0 ∷ []

-- TIMELY READINGS

near_table : (skew at : ℕ) (before : List Reading) → AllByRecursion (IsNear skew (TableClock at)) before
near_table skew at [] = tt
near_table skew at (r ∷ before) = (tt, near_table skew at before)

near_task : (skew at : ℕ) (before : List Reading) → greatest_reading before ≤ at + skew → AllByRecursion (IsNear skew (TaskClock at)) before
near_task skew at [] low = tt
near_task skew at (TableClock t ∷ before) low = (omega (arith, low), near_task skew at before (omega (arith, low)))
near_task skew at (TaskClock t ∷ before) low = (tt, near_task skew at before low)
near_task skew at (NoClock ∷ before) low = (tt, near_task skew at before low)

timely_table : (skew at : ℕ) (before : List Reading) → IsTimely skew before → IsTimely skew (TableClock at ∷ before)
timely_table skew at before timely = (near_table skew at before, timely)

timely_task : (skew at : ℕ) (before : List Reading) → greatest_reading before ≤ at + skew → IsTimely skew before → IsTimely skew (TaskClock at ∷ before)
timely_task skew at before low timely = (near_task skew at before low, timely)

timely_begun : (life : ℕ) → IsTimely 1 (readings (begun life))
timely_begun life =
    timely_table 1 3 (TableClock 2 ∷ TableClock 1 ∷ TableClock 0 ∷ TaskClock 0 ∷ [])
    (timely_table 1 2 (TableClock 1 ∷ TableClock 0 ∷ TaskClock 0 ∷ [])
    (timely_table 1 1 (TableClock 0 ∷ TaskClock 0 ∷ []) (timely_table 1 0 (TaskClock 0 ∷ []) (timely_task 1 0 [] (lit≤ tt) tt))))

run_begun : (life : ℕ) → IsRun job (begun life)
run_begun life = ((false, tt, refl), ((false, tt, refl), ((false, tt, refl), ((false, tt, refl), ((false, tt, refl), tt)))))

-- THE GUARD LEASE OF GENERATION 1 COMES LATE, after the bridge lease of generation 2

abbrev bridge : Grant
bridge = record {
  number = 2;
  task = 1;
  life = 1;
  lease = record { kind = Bridge; generation = 2; ranges = keys_where (λ key. owns (all_to 1 1).slices key 1 && owns (all_to 1 2).slices key 1); ends = 104 };
  table_ends = 105;
}

abbrev proposed : ℕ → Past
proposed life = asks_table (asked.Grant 1 1 5) (told.Granted bridge) ∷ asks_table (asked.Propose 1 (all_to 1 2) 4) told.Proposed ∷ begun life

abbrev heard_bridge : ℕ → Past
heard_bridge life = hears 1 bridge 7 ∷ proposed life

-- the key is served with the token of generation 2
abbrev served_bridge : ℕ → Past
served_bridge life = serves 1 8 Bridge 2 ∷ heard_bridge life

abbrev request : ℕ → ℕ → ℕ → Request
request task generation life = record { task = task; key = 0; token = record { epoch = 0; generation = generation; life = life } }

sent_to_itself : (g : Grant) → grant_eq g g ≡ true
sent_to_itself g = grant_equivalence.refl g

run_served_bridge : (life : ℕ) → IsRun job (served_bridge life)
run_served_bridge life = (
  (false, tt, refl),
  (
    (false, tt, heard (is_sent (proposed life) bridge) (reply.Task task_reply.Heard) (or_else (grant_eq bridge bridge) false (sent_to_itself bridge))),
    ((false, tt, refl), ((false, tt, refl), run_begun life)),
  ),
)

timely_served_bridge : (life : ℕ) → IsTimely 1 (readings (served_bridge life))
timely_served_bridge life =
    timely_task 1 8 (readings (heard_bridge life)) (lit≤ tt)
    (timely_task 1 7 (readings (proposed life)) (lit≤ tt)
    (timely_table 1 5 (TableClock 4 ∷ readings (begun life)) (timely_table 1 4 (readings (begun life)) (timely_begun life))))

hears_guard : (life : ℕ) (past : Past) (more : Bool) → is_sent past (guard_for 1 1 life 1 3) ≡ (grant_eq (guard_for 1 1 life 1 3) (guard_for 1 1 life 1 3) || more)
    → reply.Task task_reply.Heard ≡ unless (when (not (is_sent past (guard_for 1 1 life 1 3))) error.NotSent) (reply.Task task_reply.Heard)
hears_guard life past more e =
    heard (is_sent past (guard_for 1 1 life 1 3)) (reply.Task task_reply.Heard)
    (e ∙ or_else (grant_eq (guard_for 1 1 life 1 3) (guard_for 1 1 life 1 3)) more (sent_to_itself (guard_for 1 1 life 1 3)))

abbrev heard_guard : Past
heard_guard = hears 1 (guard_for 1 1 1 1 3) 9 ∷ served_bridge 1

abbrev by_guard : Past
by_guard = serves 1 10 Guard 1 ∷ heard_guard

run_by_guard : IsRun job by_guard
run_by_guard = ((false, tt, refl), ((false, tt, hears_guard 1 (served_bridge 1) (grant_eq (guard_for 1 1 1 1 3) bridge || false) refl), run_served_bridge 1))

pub holds : HasLateGuard job
holds = record {
  past = heard_guard;
  at = 10;
  earlier = 1;
  first = request 1 2 1;
  second = request 1 2 1;
  example = record {
    policy = refl;
    is_run = run_by_guard;
    turn = inl (
      record { at = 10; asked = inl refl; token = refl },
      inr (inl (record { at = 8; asked = inl refl; token = refl })),
    );
    same_key = refl;
  };
  timely = timely_task 1 10 (readings heard_guard) (lit≤ tt) (timely_task 1 9 (readings (served_bridge 1)) (lit≤ tt) (timely_served_bridge 1));
  careful = (
    λ a. tt,
    (λ a own. tt, (λ a. tt, (λ a own. tt, (λ a own. lit≤ tt, (λ a. tt, (λ a own. lit≤ tt, (λ a. tt, (λ a. tt, (λ a. tt, (λ a own. tt, tt)))))))))),
  );
  same_task = refl;
  lower = lit< tt;
  kept = refl;
}

-- A TOKEN FALLS: the bridge lease is given up before the guard lease of its generation is held

abbrev given_up : Past
given_up =
    event (call.Task 1 (task_call.Release Bridge 9)) (reply.Task (task_reply.Released (record { task = 1; life = 1; kind = Bridge; number = 2 }))) ∷ served_bridge 1

abbrev heard_after : Past
heard_after = hears 1 (guard_for 1 1 1 1 3) 10 ∷ given_up

pub falls : HasFallingToken job
falls = record {
  run = serves 1 11 Guard 1 ∷ heard_after;
  first = request 1 2 1;
  second = request 1 1 1;
  example = record {
    policy = refl;
    is_run = ((false, tt, refl), ((false, tt, hears_guard 1 given_up (grant_eq (guard_for 1 1 1 1 3) bridge || false) refl), ((false, tt, refl), run_served_bridge 1)));
    turn = inl (
      record { at = 11; asked = inl refl; token = refl },
      inr (inr (inl (record { at = 8; asked = inl refl; token = refl }))),
    );
    same_key = refl;
  };
  timely =
      timely_task 1 11 (readings heard_after) (lit≤ tt)
      (timely_task 1 10 (readings given_up) (lit≤ tt) (timely_task 1 9 (readings (served_bridge 1)) (lit≤ tt) (timely_served_bridge 1)));
  same_task = refl;
  same_life = refl;
  lower = lit< tt;
}

-- A TOKEN FALLS: the guard lease was granted for life 2 before the task started it

abbrev heard_early : Past
heard_early = hears 1 (guard_for 1 1 2 1 3) 10 ∷ starts 1 2 9 ∷ served_bridge 2

pub early : HasEarlyLease job
early = record {
  run = serves 1 11 Guard 1 ∷ heard_early;
  first = request 1 2 1;
  second = request 1 1 2;
  example = record {
    policy = refl;
    is_run = (
      (false, tt, refl),
      ((false, tt, hears_guard 2 (starts 1 2 9 ∷ served_bridge 2) (grant_eq (guard_for 1 1 2 1 3) bridge || false) refl), ((false, tt, refl), run_served_bridge 2)),
    );
    turn = inl (
      record { at = 11; asked = inl refl; token = refl },
      inr (inr (inl (record { at = 8; asked = inl refl; token = refl }))),
    );
    same_key = refl;
  };
  timely =
      timely_task 1 11 (readings heard_early) (lit≤ tt)
      (timely_task 1 10 (readings (starts 1 2 9 ∷ served_bridge 2)) (lit≤ tt) (timely_task 1 9 (readings (served_bridge 2)) (lit≤ tt) (timely_served_bridge 2)));
  same_task = refl;
  later_life = lit< tt;
  lower = lit< tt;
}

-- A LATE OWNER: task 1 reads a slow clock, and serves after task 2

abbrev kept : Past
kept = hears 1 (guard_for 1 1 1 1 3) 5 ∷ begun 1

abbrev moved : Past
moved =
    asks_table (asked.Grant 2 1 201) (told.Granted (guard_for 2 2 1 2 201)) ∷
    asks_table (asked.Commit 1 200) (told.Committed 2) ∷
    asks_table (asked.Propose 1 (all_to 2 2) 199) told.Proposed ∷
    starts 2 1 198 ∷ kept

run_moved : IsRun job moved
run_moved = (
  (false, tt, refl),
  ((false, tt, refl), ((false, tt, refl), ((false, tt, refl), ((false, tt, hears_guard 1 (begun 1) false refl), run_begun 1)))),
)

abbrev overrun : Past
overrun = serves 2 204 Guard 2 ∷ hears 2 (guard_for 2 2 1 2 201) 203 ∷ moved

run_overrun : IsRun job overrun
run_overrun = (
  (false, tt, refl),
  (
    (
      false,
      tt,
      heard (is_sent moved (guard_for 2 2 1 2 201)) (reply.Task task_reply.Heard)
          (or_else (grant_eq (guard_for 2 2 1 2 201) (guard_for 2 2 1 2 201)) false (sent_to_itself (guard_for 2 2 1 2 201))),
    ),
    run_moved,
  ),
)

pub late : HasLateOwner job
late = record {
  run = serves 1 10 Guard 1 ∷ overrun;
  first = request 2 2 1;
  second = request 1 1 1;
  example = record {
    policy = refl;
    is_run = ((false, tt, refl), run_overrun);
    turn = inl (record { at = 10; asked = inl refl; token = refl }, inl (record { at = 204; asked = inl refl; token = refl }));
    same_key = refl;
  };
  others = λ same. absurd (omega (arith, same));
  earlier = lit< tt;
}

-- A LEASE THAT DOES NOT COVER THE KEY: generation 2 gives key 0 to task 2, and the keys from 4 on to task 1, whose bridge lease has these alone

abbrev split : Slicing
split = record { generation = 2; slices = record { start = 0; owners = 2 ∷ [] } ∷ record { start = 4; owners = 1 ∷ [] } ∷ [] }

abbrev part : Grant
part = record {
  number = 2;
  task = 1;
  life = 5;
  lease = record { kind = Bridge; generation = 2; ranges = keys_where (λ key. owns (all_to 1 1).slices key 1 && owns split.slices key 1); ends = 104 };
  table_ends = 105;
}

abbrev rest : Grant
rest = record {
  number = 3;
  task = 2;
  life = 1;
  lease = record { kind = Guard; generation = 2; ranges = keys_where (λ key. owns split.slices key 2); ends = 251 };
  table_ends = 252;
}

abbrev divided : Past
divided =
    asks_table (asked.Grant 1 5 5) (told.Granted part) ∷
    asks_table (asked.Propose 1 split 4) told.Proposed ∷
    asks_table (asked.Grant 1 5 3) (told.Granted (guard_for 1 1 5 1 3)) ∷
    asks_table (asked.Commit 1 2) (told.Committed 1) ∷
    asks_table (asked.Propose 1 (all_to 1 1) 1) told.Proposed ∷
    asks_table (asked.JobTake 1 0) (told.Term (record { number = 1; assigner = 1; until = 1000 })) ∷
    starts 1 5 0 ∷ []

abbrev heard_first : Past
heard_first = hears 1 (guard_for 1 1 5 1 3) 6 ∷ divided

abbrev heard_both : Past
heard_both = hears 1 part 7 ∷ heard_first

abbrev handed : Past
handed =
    asks_table (asked.Grant 2 1 152) (told.Granted rest) ∷ starts 2 1 151 ∷ asks_table (asked.Commit 1 150) (told.Committed 2) ∷ serves 1 8 Guard 1 ∷ heard_both

run_divided : IsRun job divided
run_divided = ((false, tt, refl), ((false, tt, refl), ((false, tt, refl), ((false, tt, refl), ((false, tt, refl), ((false, tt, refl), ((false, tt, refl), tt)))))))

run_heard_both : IsRun job heard_both
run_heard_both = (
  (false, tt, heard (is_sent heard_first part) (reply.Task task_reply.Heard) (or_else (grant_eq part part) false (sent_to_itself part))),
  (
    (
      false,
      tt,
      heard (is_sent divided (guard_for 1 1 5 1 3)) (reply.Task task_reply.Heard)
          (or_else (grant_eq (guard_for 1 1 5 1 3) (guard_for 1 1 5 1 3)) (grant_eq (guard_for 1 1 5 1 3) part || false) (sent_to_itself (guard_for 1 1 5 1 3))),
    ),
    run_divided,
  ),
)

run_handed : IsRun job handed
run_handed = ((false, tt, refl), ((false, tt, refl), ((false, tt, refl), ((false, tt, refl), run_heard_both))))

timely_divided : IsTimely 1 (readings divided)
timely_divided =
    timely_table 1 5 (TableClock 4 ∷ TableClock 3 ∷ TableClock 2 ∷ TableClock 1 ∷ TableClock 0 ∷ TaskClock 0 ∷ [])
    (timely_table 1 4 (TableClock 3 ∷ TableClock 2 ∷ TableClock 1 ∷ TableClock 0 ∷ TaskClock 0 ∷ [])
    (timely_table 1 3 (TableClock 2 ∷ TableClock 1 ∷ TableClock 0 ∷ TaskClock 0 ∷ [])
    (timely_table 1 2 (TableClock 1 ∷ TableClock 0 ∷ TaskClock 0 ∷ [])
    (timely_table 1 1 (TableClock 0 ∷ TaskClock 0 ∷ []) (timely_table 1 0 (TaskClock 0 ∷ []) (timely_task 1 0 [] (lit≤ tt) tt))))))

timely_handed : IsTimely 1 (readings handed)
timely_handed =
    timely_table 1 152 (TaskClock 151 ∷ TableClock 150 ∷ TaskClock 8 ∷ readings heard_both)
    (timely_task 1 151 (TableClock 150 ∷ TaskClock 8 ∷ readings heard_both) (lit≤ tt)
    (timely_table 1 150 (TaskClock 8 ∷ readings heard_both)
    (timely_task 1 8 (readings heard_both) (lit≤ tt) (timely_task 1 7 (readings heard_first) (lit≤ tt) (timely_task 1 6 (readings divided) (lit≤ tt) timely_divided)))))

pub wide : HasWideToken job
wide = record {
  later =
      serves 2 154 Guard 2 ∷ hears 2 rest 153 ∷
      asks_table (asked.Grant 2 1 152) (told.Granted rest) ∷ starts 2 1 151 ∷ asks_table (asked.Commit 1 150) (told.Committed 2) ∷ [];
  at = 8;
  generation = 1;
  past = heard_both;
  first = request 1 1 5;
  second = request 2 2 1;
  example = record {
    policy = refl;
    is_run = (
      (false, tt, refl),
      ((false, tt, heard (is_sent handed rest) (reply.Task task_reply.Heard) (or_else (grant_eq rest rest) false (sent_to_itself rest))), run_handed),
    );
    turn = inl (
      record { at = 154; asked = inl refl; token = refl },
      inr (inr (inr (inr (inl (record { at = 8; asked = inl refl; token = refl }))))),
    );
    same_key = refl;
  };
  timely = timely_task 1 154 (TaskClock 153 ∷ readings handed) (lit≤ tt) (timely_task 1 153 (readings handed) (lit≤ tt) timely_handed);
  others = λ same. absurd (omega (arith, same));
  wide = record { epoch = 0; generation = 2; life = 5 };
  would = refl;
  above = inr (refl, inr (refl, lit< tt));
}
